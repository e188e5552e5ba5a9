use Rattle.std.proofs.Common.{◌+◌, ◌*◌, ◌≤◌, length, vec_len}
use Rattle.wide_registry.proofs.bytes.push_bytes.Given as goal

abbrev pub invariant-loop-byte : goal.invariant-loop-byte
invariant-loop-byte l = 2 * vec_len l.bytes + length l.rest ≤ 2 * vec_len l.initial.bytes + length l.initial.rest

abbrev pub decreases-loop-byte : goal.decreases-loop-byte
decreases-loop-byte l = length l.rest
