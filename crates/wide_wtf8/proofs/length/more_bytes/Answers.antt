use Rattle.std.proofs.Common.{arith}
use Rattle.wide_wtf8.proofs.Lengths.{more-next}
use Rattle.wide_wtf8.proofs.length.more_bytes.Goals as goal

pub loop-k-preserved : goal.loop-k-preserved
loop-k-preserved c =
    let i = c.loop-k.invariant in
    (omega (arith, i.0, c.more_of-more.ensures.more, more-next c.args.units.now c.loop-k.k (omega (arith, c.loop-k-test.true, c.requires.within))), omega (arith, i.1, c.more_of-more.ensures.few))
