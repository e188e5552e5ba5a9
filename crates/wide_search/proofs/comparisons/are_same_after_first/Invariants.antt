use Rattle.std.proofs.Common.{◌≡◌, ◌≤◌, length, drop}
use Rattle.wide_search.proofs.comparisons.are_same_after_first.Given as goal

-- The units from `at` on are the same.
abbrev pub invariant-loop-at : goal.invariant-loop-at
invariant-loop-at g l = (l.at ≤ length l.left) × (drop l.at l.left ≡ drop l.at l.right)

abbrev pub decreases-loop-at : goal.decreases-loop-at
decreases-loop-at g l = l.at
