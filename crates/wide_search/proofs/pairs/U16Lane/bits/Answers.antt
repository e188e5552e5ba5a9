use Rattle.wide_search.proofs.PairLanes.{pair_block16}
use Rattle.wide_search.proofs.pairs.U16Lane.bits.Goals as goal

pub returns : goal.returns
returns c = pair_block16 c.args.first c.args.last c.args.front.now c.args.back.now c.requires.front c.requires.back
