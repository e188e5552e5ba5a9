use Rattle.std.proofs.Common.{◌-◌, arith, rules, length}
use Rattle.wide_unit.proofs.Masks.{hit, miss, offset_beyond, offset_is}
use Rattle.wide_unit.proofs.lanes.first_of_32.Goals as goal

pub returns-then-bits-ne0 : goal.returns-then-bits-ne0
returns-then-bits-ne0 g c =
    let a = c.as_chunks in
    hit (g.T.Test.passes c.args.test) 8 (omega arith) c.args.units.now a.result.0.now a.ensures.front a.ensures.front_len (omega arith) c.loop-i.i _ c.bits-bits.result c.loop-i-test.true (omega (arith, a.ensures.front_len, c.loop-i-test.true)) c.bits-bits.ensures c.if-bits-ne0.true c.loop-i.invariant

pub loop-i-preserved : goal.loop-i-preserved
loop-i-preserved g c =
    let a = c.as_chunks in
    miss (g.T.Test.passes c.args.test) 8 (omega arith) c.args.units.now a.result.0.now a.ensures.front a.ensures.front_len (omega arith) c.loop-i.i _ c.bits-bits.result c.loop-i-test.true (omega (arith, a.ensures.front_len, c.loop-i-test.true)) (omega arith) c.bits-bits.ensures c.if-bits-ne0.false c.loop-i.invariant

pub first_in_last_32-requires-clause-before : goal.first_in_last_32-requires-clause-before
first_in_last_32-requires-clause-before g c =
    let us = c.args.units.now in
    offset_beyond (g.T.Test.passes c.args.test) us (length us - 8) (omega arith) (λ k l. c.loop-i.invariant k (omega (arith, l, c.as_chunks.ensures.front_len)))

pub returns-then-accepts : goal.returns-then-accepts
returns-then-accepts g c = offset_is (g.T.Test.passes c.args.test) c.args.units.now c.loop-k.k (omega arith) c.loop-k.invariant (λ _. search rules)

pub returns : goal.returns
returns g c = offset_is (g.T.Test.passes c.args.test) c.args.units.now (length c.args.units.now) (omega arith) (λ k l. c.loop-k.invariant k (omega arith)) (λ l. absurd (omega arith))
