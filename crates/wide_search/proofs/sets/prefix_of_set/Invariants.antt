use Rattle.std.proofs.Common.{length}
use Rattle.wide_search.proofs.Members.{IsPast}
use Rattle.wide_search.proofs.sets.prefix_of_set.Given as goal

abbrev pub invariant-loop-item : goal.invariant-loop-item
invariant-loop-item g l = IsPast g.C.Unit.form g.C.Unit.number (g.S.CharSet.has l.set) l.members l.units l.rest

abbrev pub decreases-loop-item : goal.decreases-loop-item
decreases-loop-item g l = length l.rest
