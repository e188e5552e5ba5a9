use Rattle.std.proofs.Common.{◌≡◌, ◌∙◌, length, length-take, arith}
use Rattle.wide_repair.proofs.Repairs.{repaired32-lossy, prefix_is}
use Rattle.wide_repair.proofs.repair.repair_32.Goals as goal

pub returns-clause-units : goal.returns-clause-units
returns-clause-units c =
    let us = c.args.units.now in
    let vs = c.repair_scalars.new.repaired in
    let long : length vs ≡ length us = omega (arith, c.repair_scalars.ensures.space, length-take (length us) c.args.repaired.now, c.requires) in
    prefix_is (length us) c.args.repaired.now vs long ∙ repaired32-lossy us vs long c.repair_scalars.ensures.each
