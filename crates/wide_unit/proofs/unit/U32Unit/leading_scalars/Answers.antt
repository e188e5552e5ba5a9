use Rattle.wide_unit.proofs.Alone.{no_scalar-offset}
use Rattle.wide_unit.proofs.unit.U32Unit.leading_scalars.Goals as goal

pub returns : goal.returns
returns c = no_scalar-offset c.args.units.now c.first_no_scalar.result c.first_no_scalar.ensures
