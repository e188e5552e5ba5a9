use Rattle.std.proofs.Common.{◌≡◌, ◌-◌, vec_capacity}
use Rattle.wide_ustring.proofs.CharFilters.{FilteringChars}
use Rattle.wide_ustring.proofs.ustring.UString.retain_chars.Given as goal

abbrev pub invariant-loop-at : goal.invariant-loop-at
invariant-loop-at g l = record {
  callable : goal.F-IsAlwaysCallable g l.keep;
  filtered : FilteringChars g.C.Unit.form g.C.Unit.number (goal.F-step g) l.initial.keep l.keep l.initial.units.items l.units.items l.retained l.at;
  space : vec_capacity l.units ≡ vec_capacity l.initial.units;
}

abbrev pub decreases-loop-at : goal.decreases-loop-at
decreases-loop-at g l = l.len - l.at
