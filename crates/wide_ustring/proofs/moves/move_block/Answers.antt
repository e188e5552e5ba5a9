use Rattle.std.proofs.Common.{◌≡◌, arith, refl}
use Rattle.wide_ustring.proofs.Moved.{read-one, write-one, block-length, block-moved}
use Rattle.wide_ustring.proofs.moves.move_block.Goals as goal

pub loop-k-preserved : goal.loop-k-preserved
loop-k-preserved g c =
    read-one _ c.args.elements.now c.loop-k.block c.args.from c.loop-k.k _ c.index-elements-from-in-loop-k.result c.index-elements-from-in-loop-k.is c.loop-k.invariant (omega (arith, c.loop-k-test.true))
    (omega (arith, c.loop-k-test.true, c.requires.from))

pub loop-k-2-preserved : goal.loop-k-2-preserved
loop-k-2-preserved g c =
    let done : c.loop-k.k ≡ 32 = omega (arith, c.loop-k.auto.k-end, c.loop-k-test.false) in
    let long = block-length c.args.elements.now _ c.loop-k.block c.args.from c.loop-k.k c.loop-k.invariant (omega (arith, done)) (omega (arith, done, c.requires.from)) in
    write-one c.args.elements.now c.loop-k.block c.loop-k-2.elements c.args.to c.loop-k-2.k c.index-block-k-in-loop-k-2.result _ refl c.loop-k-2.invariant (omega (arith, c.loop-k-2-test.true, c.requires.to)) (omega (arith, long, c.loop-k-2-test.true))

pub returns : goal.returns
returns g c =
    let done : c.loop-k-2.k ≡ c.loop-k.k = omega (arith, c.loop-k.auto.k-end, c.loop-k-test.false, c.loop-k-2.auto.k-end, c.loop-k-2-test.false) in
    block-moved c.args.elements.now _ c.loop-k-2.elements c.loop-k.block c.args.from c.args.to c.loop-k.k c.loop-k-2.k _ (omega (arith, done)) (omega (arith, done, c.loop-k.auto.k-end, c.loop-k-test.false)) c.loop-k.invariant
    (omega (arith, c.requires.from, c.loop-k-2.auto.k-end)) c.loop-k-2.invariant
