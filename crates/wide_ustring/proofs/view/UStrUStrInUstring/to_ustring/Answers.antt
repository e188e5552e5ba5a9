use Rattle.std.proofs.Common.{arith}
use Rattle.std.proofs.lemmas.Grind.{common_steps}
use Rattle.wide_ustring.proofs.view.UStrUStrInUstring.to_ustring.Goals as goal

pub returns-clause-units : goal.returns-clause-units
returns-clause-units g c = grind (arith, common_steps)
