use Rattle.std.proofs.Common.{arith}
use Rattle.std.proofs.lemmas.Grind.{common_steps}
use Rattle.wide_ustring.proofs.ustring.UString+u32+A.from_chars.Goals as goal

pub loop-c-preserved : goal.loop-c-preserved
loop-c-preserved g c = grind (arith, common_steps)

pub returns-clause-units : goal.returns-clause-units
returns-clause-units g c = grind (arith, common_steps)
