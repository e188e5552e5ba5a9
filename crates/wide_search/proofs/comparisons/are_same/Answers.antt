use Rattle.std.proofs.Common.{arith}
use Rattle.std.proofs.lemmas.Grind.{common_steps}
use Rattle.wide_search.proofs.comparisons.are_same.Goals as goal

pub returns-then-code : goal.returns-then-code
returns-then-code g c = grind (arith, common_steps)

pub loop-offset-preserved : goal.loop-offset-preserved
loop-offset-preserved g c = grind (arith, common_steps)

pub returns : goal.returns
returns g c = grind (arith, common_steps)
