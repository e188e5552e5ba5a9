use Rattle.std.proofs.Common.{◌≡◌, ◌<◌, ℕ, get_or, length}
use Rattle.wide_repair.specs.Repaired.{repaired_scalar}
use Rattle.wide_repair.proofs.repair.repair_scalars.Given as goal

abbrev pub invariant-loop-k : goal.invariant-loop-k
invariant-loop-k l = (length l.repaired ≡ length l.units) × ((j : ℕ) → j < l.k → get_or l.repaired j 0 ≡ repaired_scalar (get_or l.units j 0))
