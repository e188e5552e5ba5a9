use Rattle.wide_bytes.proofs.BigLanes.{units-are}
use Rattle.wide_bytes.proofs.units_from_bytes.big_lanes.Goals as goal

pub returns : goal.returns
returns c k within = units-are c.args.bytes.now c.requires (λ i. (c.type_inv.bytes i).fits) k within
