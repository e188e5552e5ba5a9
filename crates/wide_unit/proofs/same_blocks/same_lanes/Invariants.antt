use Rattle.std.proofs.Common.{◌≡◌, ◌≤◌, ◌-◌, length, take}
use Rattle.wide_unit.proofs.same_blocks.same_lanes.Given as goal

-- The units before `at` are the same.
abbrev pub invariant-loop-at : goal.invariant-loop-at
invariant-loop-at g l = (l.at ≤ length l.left) × (take l.at l.left ≡ take l.at l.right)

abbrev pub decreases-loop-at : goal.decreases-loop-at
decreases-loop-at g l = length l.left - l.at
