use Rattle.std.proofs.Common.{arith}
use Rattle.std.proofs.lemmas.Grind.{common_steps}
use Rattle.wide_unit.proofs.compare.order_of_units.Goals as goal

pub loop-x-init : goal.loop-x-init
loop-x-init g c = grind (arith, common_steps)

pub returns-in_default : goal.returns-in_default
returns-in_default g c = grind (arith, common_steps)

pub returns-then-ne : goal.returns-then-ne
returns-then-ne g c = grind (arith, common_steps)

pub loop-x-preserved : goal.loop-x-preserved
loop-x-preserved g c = grind (arith, common_steps)

pub returns-then-is_empty : goal.returns-then-is_empty
returns-then-is_empty g c = grind (arith, common_steps)

pub returns-else-is_empty : goal.returns-else-is_empty
returns-else-is_empty g c = grind (arith, common_steps)
