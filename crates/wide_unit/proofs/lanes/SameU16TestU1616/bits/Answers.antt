use Rattle.wide_unit.proofs.Masks.{same_block16}
use Rattle.wide_unit.proofs.lanes.SameU16TestU1616.bits.Goals as goal

pub returns : goal.returns
returns c = same_block16 c.args.self.unit c.args.block.now c.requires
