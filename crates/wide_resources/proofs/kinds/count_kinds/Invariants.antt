use Rattle.std.proofs.Common.{◌≤◌, IfOk, vec_len, ◌≡◌, ℕ, ◌+◌, ◌-◌, ◌*◌, ◌<◌, length}
use Rattle.wide_resources.proofs.kinds.count_kinds.Given as goal

abbrev pub invariant-loop-kind : goal.invariant-loop-kind
invariant-loop-kind l = vec_len l.counts ≤ l.kind-index
