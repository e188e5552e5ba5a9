use Rattle.wide_unit.proofs.Nuls.{first_nul_of}
use Rattle.wide_unit.proofs.nul.first_nul.Goals as goal

pub returns : goal.returns
returns g c = first_nul_of g.C.Unit.number c.args.units.now c.first_of.result c.first_of.ensures.none c.first_of.ensures.before c.first_of.ensures.within c.first_of.ensures.at
