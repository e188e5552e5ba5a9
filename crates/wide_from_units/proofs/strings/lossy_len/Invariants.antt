use Rattle.std.proofs.Common.{◌≡◌, ◌+◌, ◌-◌, ◌^◌, ◌≤◌, length, map, min}
use Rattle.wide_forms.specs.Items.{items}
use Rattle.wide_forms.specs.Lossy.{lossy_after, lossy_by}
use Rattle.wide_forms.specs.Utf8.{utf8}
use Rattle.wide_from_units.proofs.strings.lossy_len.Given as goal

abbrev pub invariant-prefixes : goal.invariant-prefixes
invariant-prefixes g l = record {
  space : 2 ≤ length l.spare;
  small : l.len ≤ 2 ^ 64 - 1;
  counted : min (l.len + length (utf8 (lossy_after l.policy l.after_fault (items g.C.Unit.form (map g.C.Unit.number l.rest))))) (2 ^ 64 - 1) ≡ min (length (utf8 (lossy_by l.fn.policy (items g.C.Unit.form (map g.C.Unit.number l.fn.units))))) (2 ^ 64 - 1);
}

abbrev pub decreases-prefixes : goal.decreases-prefixes
decreases-prefixes g l = length l.rest
