use Rattle.std.proofs.Common.{arith}
use Rattle.std.proofs.lemmas.Grind.{common_steps}
use Rattle.wide_ustring.proofs.space.push_char.Goals as goal

pub returns-in-Some-clause-units : goal.returns-in-Some-clause-units
returns-in-Some-clause-units g c = grind (arith, common_steps)

pub returns-in_default-clause-units : goal.returns-in_default-clause-units
returns-in_default-clause-units g c = grind (arith, common_steps)
