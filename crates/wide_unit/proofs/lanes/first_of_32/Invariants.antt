use Rattle.std.proofs.Common.{◌*◌}
use Rattle.wide_unit.proofs.Masks.{NoneBefore}
use Rattle.wide_unit.proofs.lanes.first_of_32.Given as goal

abbrev pub invariant-loop-i : goal.invariant-loop-i
invariant-loop-i g l = NoneBefore (g.T.Test.passes l.test) l.units (l.i * 8)

abbrev pub invariant-loop-k : goal.invariant-loop-k
invariant-loop-k g l = NoneBefore (g.T.Test.passes l.test) l.units l.k
