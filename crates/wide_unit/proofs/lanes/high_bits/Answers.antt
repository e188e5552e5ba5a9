use Rattle.wide_unit.proofs.Masks.{high_block}
use Rattle.wide_unit.proofs.lanes.high_bits.Goals as goal

pub returns : goal.returns
returns c = high_block c.args.block.now c.requires c.type_inv.block
