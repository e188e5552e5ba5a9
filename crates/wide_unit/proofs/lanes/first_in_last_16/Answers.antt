use Rattle.std.proofs.Common.{◌-◌, arith, length}
use Rattle.wide_unit.proofs.Masks.{last_passed, last_stops}
use Rattle.wide_unit.proofs.lanes.first_in_last_16.Goals as goal

pub returns-then-bits-eq0 : goal.returns-then-bits-eq0
returns-then-bits-eq0 g c =
    let us = c.args.units.now in
    last_passed (g.T.Test.passes c.args.test) 16 (omega arith) us (length us - 16) _ c.bits-bits.result (omega (arith, c.requires.whole)) (omega (arith, c.requires.whole)) c.bits-bits.ensures c.requires.before c.if-bits-eq0.true

pub returns : goal.returns
returns g c =
    let us = c.args.units.now in
    last_stops (g.T.Test.passes c.args.test) 16 (omega arith) us (length us - 16) _ c.bits-bits.result (omega (arith, c.requires.whole)) (omega (arith, c.requires.whole)) c.bits-bits.ensures c.requires.before c.if-bits-eq0.false
