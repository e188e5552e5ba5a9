use Rattle.std.proofs.Common.{◌≡◌, length, map}
use Rattle.std.specs.Ordering.{nat_cmp}
use Rattle.std.specs.Cmp.Lexicographic.{slice_cmp}
use Rattle.wide_unit.specs.CodePoints.{code_points}
use Rattle.wide_unit.proofs.order.compare_items.Given as goal

abbrev pub invariant-loop-x : goal.invariant-loop-x
invariant-loop-x g l =
    slice_cmp nat_cmp (code_points g.C.Unit.form (map g.C.Unit.number l.fn.left)) (code_points g.C.Unit.form (map g.C.Unit.number l.fn.right))
    ≡ slice_cmp nat_cmp (code_points g.C.Unit.form (map g.C.Unit.number l.ours)) (code_points g.C.Unit.form (map g.C.Unit.number l.theirs))

abbrev pub decreases-loop-x : goal.decreases-loop-x
decreases-loop-x g l = length l.ours
