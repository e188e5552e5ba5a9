use Rattle.std.proofs.Common.{◌≡◌, ◌≤◌, ◌-◌, take}
use Rattle.wide_unit.proofs.compare.prefix_by_blocks.Given as goal

-- The units before `at` are the same.
abbrev pub invariant-loop-at : goal.invariant-loop-at
invariant-loop-at g l = (l.at ≤ l.len) × (take l.at l.left ≡ take l.at l.right)

abbrev pub decreases-loop-at : goal.decreases-loop-at
decreases-loop-at g l = l.len - l.at
