use Rattle.std.proofs.Common.{◌≡◌, ◌∙◌, length, length-take, arith}
use Rattle.wide_repair.proofs.Repairs.{repaired-lossy, prefix_is}
use Rattle.wide_repair.proofs.repair.repair_16.Goals as goal

pub returns-clause-units : goal.returns-clause-units
returns-clause-units c =
    let us = c.args.units.now in
    let vs = c.repair_whole.new.repaired in
    let long : length vs ≡ length us = omega (arith, c.repair_whole.ensures.space, length-take (length us) c.args.repaired.now, c.requires) in
    prefix_is (length us) c.args.repaired.now vs long ∙ repaired-lossy us vs (λ k. omega (arith, (c.type_inv.units k).fits)) long c.repair_whole.ensures.each
