use Rattle.std.proofs.Common.{◌≡◌, ◌≤◌, ◌+◌, ◌++◌, length, map}
use Rattle.std.specs.Prelude.{vec_capacity}
use Rattle.wide_forms.specs.Items.{chars}
use Rattle.wide_utfstr.specs.View.{units_seen}
use Rattle.wide_utfstr.specs.Iter.{chars_left}
use Rattle.wide_editable.proofs.operations.copy.Given as goal

abbrev pub invariant-loop-c : goal.invariant-loop-c
invariant-loop-c g l =
    let left = chars_left g.C.Unit.form g.C.Unit.number l.rest in
    record {
      reported : l.space.items ++ left ≡ chars g.C.Unit.form (map g.C.Unit.number (units_seen l.fn.text));
      fits : length l.space.items + length left ≤ vec_capacity l.space;
    }

abbrev pub decreases-loop-c : goal.decreases-loop-c
decreases-loop-c g l = length (chars_left g.C.Unit.form g.C.Unit.number l.rest)
