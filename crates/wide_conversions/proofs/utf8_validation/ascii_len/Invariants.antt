use Rattle.std.proofs.Common.{◌<◌, ◌≤◌, ◌-◌, ℕ, get_or, length}
use Rattle.wide_conversions.proofs.utf8_validation.ascii_len.Given as goal

abbrev pub invariant-runs : goal.invariant-runs
invariant-runs l = record { within : l.len ≤ length l.text; ascii : (j : ℕ) → j < l.len → get_or l.text j 0 < 0x80 }

abbrev pub decreases-runs : goal.decreases-runs
decreases-runs l = length l.text - l.len
