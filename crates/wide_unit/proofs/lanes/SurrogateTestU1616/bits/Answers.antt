use Rattle.wide_unit.proofs.Masks.{surrogate_block}
use Rattle.wide_unit.proofs.lanes.SurrogateTestU1616.bits.Goals as goal

pub returns : goal.returns
returns c = surrogate_block c.args.block.now c.requires c.type_inv.block
