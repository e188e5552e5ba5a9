use Rattle.wide_utf16_to_utf8.proofs.Lanes.{more-bits}
use Rattle.wide_from_units.proofs.to_utf8.bits_of.Goals as goal

pub loop-k-preserved : goal.loop-k-preserved
loop-k-preserved c = more-bits c.args.block.now c.loop-k.k c.loop-k.bits c.loop-k.invariant
