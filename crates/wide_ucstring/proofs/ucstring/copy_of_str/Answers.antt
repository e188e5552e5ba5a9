use Rattle.std.proofs.Common.{arith}
use Rattle.std.proofs.lemmas.Grind.{common_steps}
use Rattle.wide_ucstring.proofs.ucstring.copy_of_str.Goals as goal

pub returns-clause-space : goal.returns-clause-space
returns-clause-space g c = grind (arith, common_steps)
