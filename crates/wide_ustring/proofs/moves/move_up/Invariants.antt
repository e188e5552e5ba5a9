use Rattle.std.proofs.Common.{◌≡◌, ◌+◌, ◌≤◌}
use Rattle.std.specs.List.{copy_within}
use Rattle.wide_ustring.proofs.moves.move_up.Given as goal

-- The elements from number `left` on are moved.
abbrev pub invariant-loop-left : goal.invariant-loop-left
invariant-loop-left g l = (l.left ≤ l.count) × (l.elements ≡ copy_within l.fn.elements (l.from + l.left) (l.from + l.count) (l.to + l.left))

abbrev pub decreases-loop-left : goal.decreases-loop-left
decreases-loop-left g l = l.left
