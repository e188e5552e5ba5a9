use Rattle.std.proofs.Common.{◌≡◌, ◌≤◌, ◌-◌, take}
use Rattle.wide_search.proofs.comparisons.near_prefix.Given as goal

-- The units before `shared` are the same.
abbrev pub invariant-loop-shared : goal.invariant-loop-shared
invariant-loop-shared g l = (l.shared ≤ l.len) × (take l.shared l.left ≡ take l.shared l.right)

abbrev pub decreases-loop-shared : goal.decreases-loop-shared
decreases-loop-shared g l = l.len - l.shared
