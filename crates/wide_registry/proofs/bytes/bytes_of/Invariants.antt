use Rattle.std.proofs.Common.{◌+◌, ◌*◌, ◌<◌, ◌≤◌, length, vec_len}
use Rattle.wide_registry.proofs.bytes.bytes_of.Given as goal

abbrev pub invariant-loop-rest : goal.invariant-loop-rest
invariant-loop-rest l = (2 * vec_len l.bytes + length l.rest ≤ length l.digits + 1) × (0 < length l.rest → 2 * vec_len l.bytes + length l.rest ≤ length l.digits)

abbrev pub decreases-loop-rest : goal.decreases-loop-rest
decreases-loop-rest l = length l.rest
