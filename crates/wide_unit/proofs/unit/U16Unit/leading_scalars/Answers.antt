use Rattle.wide_unit.proofs.Alone.{surrogate-offset}
use Rattle.wide_unit.proofs.unit.U16Unit.leading_scalars.Goals as goal

pub returns : goal.returns
returns c = surrogate-offset c.args.units.now c.first_surrogate.result c.type_inv.units c.first_surrogate.ensures
