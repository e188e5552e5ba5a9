use Rattle.std.proofs.Common.{arith}
use Rattle.wide_ustring.proofs.Repeats.{repeat_empty, repeat_more}
use Rattle.wide_ucstring.proofs.view.repeated.Goals as goal

pub loop-turn-preserved : goal.loop-turn-preserved
loop-turn-preserved g c = grind (arith, repeat_more)

pub returns : goal.returns
returns g c = grind (arith, repeat_empty)
