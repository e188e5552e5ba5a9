use Rattle.std.proofs.Common.{arith}
use Rattle.wide_ustring.proofs.Repeats.{repeat_more, repeat_empty}
use Rattle.wide_ustring.proofs.view.UStrUStrInUstring.repeat.Goals as goal

pub loop-turn-preserved : goal.loop-turn-preserved
loop-turn-preserved g c = grind (arith, repeat_more)

pub returns-clause-units : goal.returns-clause-units
returns-clause-units g c = grind (arith, repeat_empty)
