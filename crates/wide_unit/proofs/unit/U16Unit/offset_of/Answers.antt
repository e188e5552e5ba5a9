use Rattle.std.proofs.Common.{arith}
use Rattle.wide_unit.proofs.Alone.{past_units}
use Rattle.wide_unit.proofs.unit.U16Unit.offset_of.Goals as goal

pub returns-else-code-le65535 : goal.returns-else-code-le65535
returns-else-code-le65535 c = past_units c.args.units.now c.args.code c.type_inv.units (omega (arith, c.if-code-le65535.false))
