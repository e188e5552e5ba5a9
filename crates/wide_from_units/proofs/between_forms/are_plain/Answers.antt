use Rattle.std.proofs.Common.{arith}
use Rattle.std.proofs.lemmas.Grind.{common_steps}
use Rattle.wide_from_units.proofs.RecodedPrefixes.{number-at}
use Rattle.wide_from_units.proofs.between_forms.are_plain.Goals as goal

pub loop-k-preserved : goal.loop-k-preserved
loop-k-preserved g c =
    let is = number-at g.C.Unit.number c.args.block.now c.loop-k.k c.index-block-k.result (omega (arith, c.requires, c.loop-k-test.true)) c.index-block-k.is in
    grind (arith, common_steps)
