use Rattle.std.proofs.Common.{◌≡◌, ◌+◌, ◌<◌, ℕ, get_or, length}
use Rattle.wide_repair.specs.Repaired.{repaired_unit}
use Rattle.wide_repair.proofs.repair.repaired_lanes.Given as goal

abbrev pub invariant-loop-k : goal.invariant-loop-k
invariant-loop-k l = (length l.repaired ≡ 16) × ((j : ℕ) → j < l.k → get_or l.repaired j 0 ≡ repaired_unit (get_or l.units j 0) (get_or l.units (j + 1) 0) (get_or l.units (j + 2) 0))
