use Rattle.std.proofs.Common.{length}
use Rattle.wide_search.proofs.Members.{IsBefore}
use Rattle.wide_search.proofs.sets.suffix_of_set.Given as goal

abbrev pub invariant-loop-others : goal.invariant-loop-others
invariant-loop-others g l = IsBefore g.C.Unit.form g.C.Unit.number (g.S.CharSet.has l.set) l.members l.units l.rest

abbrev pub decreases-loop-others : goal.decreases-loop-others
decreases-loop-others g l = length l.rest
