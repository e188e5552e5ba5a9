use Rattle.std.proofs.Common.{◌≡◌, ◌+◌, ◌-◌, ◌≤◌}
use Rattle.std.specs.List.{copy_within}
use Rattle.wide_ustring.proofs.moves.move_down.Given as goal

-- The first `done` elements are moved.
abbrev pub invariant-loop-done : goal.invariant-loop-done
invariant-loop-done g l = (l.done ≤ l.count) × (l.elements ≡ copy_within l.fn.elements l.from (l.from + l.done) l.to)

abbrev pub decreases-loop-done : goal.decreases-loop-done
decreases-loop-done g l = l.count - l.done
