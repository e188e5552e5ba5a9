use Rattle.std.proofs.Common.{◌≡◌, map, drop}
use Rattle.std.specs.Ordering.{nat_cmp}
use Rattle.std.specs.Cmp.Lexicographic.{slice_cmp}
use Rattle.wide_unit.proofs.compare.order_of_units.Given as goal

abbrev pub invariant-loop-x : goal.invariant-loop-x
invariant-loop-x g l =
    slice_cmp nat_cmp (map g.C.Unit.number l.left) (map g.C.Unit.number l.right) ≡ slice_cmp nat_cmp (map g.C.Unit.number (drop l.x-index l.left)) (map g.C.Unit.number l.rest)
