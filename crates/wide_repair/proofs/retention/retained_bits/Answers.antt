use Rattle.wide_repair.proofs.Retained.{bits-are, bits-few}
use Rattle.std.proofs.Common.{arith, drop, get_or}
use Rattle.wide_repair.proofs.retention.retained_bits.Goals as goal

pub returns-clause-bits : goal.returns-clause-bits
returns-clause-bits c = bits-are c.args.policy c.retained_lanes.new.lanes c.args.units.now c.args.repaired.now (omega arith) c.requires.units c.requires.repaired c.retained_lanes.ensures

pub returns-clause-below : goal.returns-clause-below
returns-clause-below c =
    let us = c.args.units.now in
    let ms = c.args.repaired.now in
    let is = bits-are c.args.policy c.retained_lanes.new.lanes us ms (omega arith) c.requires.units c.requires.repaired c.retained_lanes.ensures in
    omega (arith, is, bits-few 8 c.args.policy (get_or us 0 0) (get_or ms 0 0) (drop 1 us) (drop 1 ms))
