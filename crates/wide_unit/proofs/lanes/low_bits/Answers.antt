use Rattle.wide_unit.proofs.Masks.{low_block}
use Rattle.wide_unit.proofs.lanes.low_bits.Goals as goal

pub returns : goal.returns
returns c = low_block c.args.block.now c.requires c.type_inv.block
