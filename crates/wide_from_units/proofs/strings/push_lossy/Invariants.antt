use Rattle.std.proofs.Common.{◌≡◌, ◌++◌, ◌≤◌, length, map}
use Rattle.wide_forms.specs.Items.{items}
use Rattle.wide_forms.specs.Lossy.{lossy_after, lossy_by}
use Rattle.wide_forms.specs.Utf8.{utf8}
use Rattle.wide_from_units.proofs.strings.push_lossy.Given as goal

abbrev pub invariant-prefixes : goal.invariant-prefixes
invariant-prefixes g l = record {
  space : 2 ≤ length l.spare;
  so_far : l.text.items ++ utf8 (lossy_after l.policy l.after_fault (items g.C.Unit.form (map g.C.Unit.number l.rest))) ≡ l.fn.text.items ++ utf8 (lossy_by l.fn.policy (items g.C.Unit.form (map g.C.Unit.number l.fn.units)));
}

abbrev pub decreases-prefixes : goal.decreases-prefixes
decreases-prefixes g l = length l.rest
