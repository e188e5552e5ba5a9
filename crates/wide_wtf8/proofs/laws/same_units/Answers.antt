use Rattle.wide_schemes.specs.Wtf8Laws.{wtf8-unique}
use Rattle.wide_wtf8.proofs.UnitsOfSlices.{all-units}
use Rattle.wide_wtf8.proofs.laws.same_units.Goals as goal

pub returns : goal.returns
returns c = wtf8-unique c.args.units.now c.args.others.now (all-units c.args.units.now c.type_inv.units) (all-units c.args.others.now c.type_inv.others)
