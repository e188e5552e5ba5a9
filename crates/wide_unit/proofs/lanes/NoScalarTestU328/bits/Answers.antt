use Rattle.wide_unit.proofs.Masks.{no_scalar_block}
use Rattle.wide_unit.proofs.lanes.NoScalarTestU328.bits.Goals as goal

pub returns : goal.returns
returns c = no_scalar_block c.args.block.now c.requires c.type_inv.block
