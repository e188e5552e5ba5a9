use Rattle.std.proofs.Common.{◌≤◌, length}
use Rattle.wide_registry.proofs.bytes.behind_more.Given as goal

abbrev pub invariant-loop-next : goal.invariant-loop-next
invariant-loop-next l = length l.rest ≤ length l.text

abbrev pub decreases-loop-next : goal.decreases-loop-next
decreases-loop-next l = length l.rest
