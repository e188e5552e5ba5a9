use Rattle.std.proofs.Common.{◌<◌, ◌≤◌, ℕ, IsTrue, get_or, map}
use Rattle.wide_from_units.proofs.between_forms.are_plain.Given as goal

abbrev pub invariant-loop-k : goal.invariant-loop-k
invariant-loop-k g l = record {
  below : IsTrue l.plain → (j : ℕ) → j < l.k → get_or (map g.C.Unit.number l.block) j 0 < 0x1_0000;
  characters : IsTrue l.plain → (j : ℕ) → j < l.k → 0xd800 ≤ get_or (map g.C.Unit.number l.block) j 0 → 0xe000 ≤ get_or (map g.C.Unit.number l.block) j 0;
}
