use Rattle.std.proofs.Common.{arith}
use Rattle.std.specs.Char.{to_ascii_lowercase}
use Rattle.wide_ascii.proofs.Replaced.{replaced-one}
use Rattle.wide_ascii.proofs.case.make_ascii_lowercase.Goals as goal

pub loop-k-preserved : goal.loop-k-preserved
loop-k-preserved g c =
    replaced-one g.C.Unit.number to_ascii_lowercase c.args.units.now c.loop-k.units c.loop-k.k c.index-units-k.result c.lowercase.result (omega (arith, c.loop-k-test.true, c.loop-k.auto.units)) (omega (arith, c.loop-k.auto.units)) c.index-units-k.is c.lowercase.ensures c.loop-k.invariant
