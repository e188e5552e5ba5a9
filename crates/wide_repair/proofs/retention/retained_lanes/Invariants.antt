use Rattle.std.proofs.Common.{◌≡◌, ◌+◌, ◌<◌, ℕ, get_or, length}
use Rattle.wide_repair.specs.Compressed.{is_retained}
use Rattle.wide_forms.specs.Bits.{bit_of}
use Rattle.wide_repair.proofs.retention.retained_lanes.Given as goal

abbrev pub invariant-loop-k : goal.invariant-loop-k
invariant-loop-k l = (length l.lanes ≡ 8) × ((j : ℕ) → j < l.k → get_or l.lanes j 0 ≡ bit_of (is_retained l.fn.policy (get_or l.units j 0) (get_or l.repaired j 0) (get_or l.units (j + 1) 0) (get_or l.repaired (j + 1) 0)))
