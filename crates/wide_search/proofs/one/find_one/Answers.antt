use Rattle.wide_search.proofs.Single.{first-reported, nowhere-reported}
use Rattle.wide_search.proofs.one.find_one.Goals as goal

pub returns-clause-first : goal.returns-clause-first
returns-clause-first g c = first-reported g.C.Unit.number g.met.C.Unit.same c.args.unit c.code.result c.args.units.now c.code.ensures c.first_of.result c.first_of.ensures.within c.first_of.ensures.before c.first_of.ensures.at

pub returns-clause-none : goal.returns-clause-none
returns-clause-none g c = nowhere-reported g.C.Unit.number c.args.unit c.code.result c.args.units.now c.code.ensures c.first_of.result c.first_of.ensures.none
