use Rattle.std.proofs.Common.{arith}
use Rattle.std.proofs.lemmas.Grind.{common_steps}
use Rattle.wide_ustring.proofs.Parts.{part_last}
use Rattle.wide_ustring.proofs.iter.DrainDoubleEndedIterator.next_back.Goals as goal

pub returns-then-self-back-clause-steps : goal.returns-then-self-back-clause-steps
returns-then-self-back-clause-steps g c = grind (arith, common_steps)

pub returns-clause-goes : goal.returns-clause-goes
returns-clause-goes g c = grind (arith, common_steps)

pub returns-clause-steps : goal.returns-clause-steps
returns-clause-steps g c = grind (arith, part_last)
