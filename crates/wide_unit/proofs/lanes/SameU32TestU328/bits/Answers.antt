use Rattle.wide_unit.proofs.Masks.{same_block32}
use Rattle.wide_unit.proofs.lanes.SameU32TestU328.bits.Goals as goal

pub returns : goal.returns
returns c = same_block32 c.args.self.unit c.args.block.now c.requires
