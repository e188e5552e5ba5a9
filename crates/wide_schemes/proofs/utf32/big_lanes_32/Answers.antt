use Rattle.wide_schemes.proofs.Lanes32.{units-are}
use Rattle.wide_schemes.proofs.utf32.big_lanes_32.Goals as goal

pub returns : goal.returns
returns c k within = units-are c.args.bytes.now c.requires (λ i. (c.type_inv.bytes i).fits) k within
