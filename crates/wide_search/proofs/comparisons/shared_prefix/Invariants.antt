use Rattle.std.proofs.Common.{◌≡◌, ◌≤◌, ◌-◌, length, take}
use Rattle.wide_search.proofs.comparisons.shared_prefix.Given as goal

-- The units before `shared` are the same.
abbrev pub invariant-loop-shared : goal.invariant-loop-shared
invariant-loop-shared g l = (l.shared ≤ length l.left) × (take l.shared l.left ≡ take l.shared l.right)

abbrev pub decreases-loop-shared : goal.decreases-loop-shared
decreases-loop-shared g l = length l.left - l.shared
