use Rattle.wide_search.proofs.Sides.{occurs-front, none-to_stop}
use Rattle.wide_search.proofs.two_way.find_two_way.Goals as goal

pub returns-clause-here : goal.returns-clause-here
returns-clause-here g c = λ found. occurs-front g.C.Unit.number g.met.C.Unit.same c.args.needle.now c.args.units.now c.next_occurrence.result.at (c.next_occurrence.ensures.stop.here found)

pub returns-clause-before : goal.returns-clause-before
returns-clause-before g c =
    none-to_stop g.C.Unit.number g.met.C.Unit.same c.args.needle.now c.args.units.now c.args.from c.next_occurrence.result.at c.requires.before c.next_occurrence.ensures.stop.before
