use Rattle.std.proofs.Common.{arith}
use Rattle.std.proofs.lemmas.Grind.{common_steps}
use Rattle.wide_ucstring.specs.Made.{EndsAsGiven}
use Rattle.wide_ucstring.proofs.Ends.{of_numbers, ok_gives}
use Rattle.wide_ucstring.proofs.ucstring.UCString+u32+A.from_chars.Goals as goal

pub returns-clause-made : goal.returns-clause-made
returns-clause-made g c = rw (← c.in_ok-copy_of_chars.ensures.units) (ok_gives c.from_vec.result (λ s. of_numbers EndsAsGiven c.in_ok-copy_of_chars.field-0.items s.units) c.from_vec.ensures.made)

pub returns-clause-ok : goal.returns-clause-ok
returns-clause-ok g c = grind (arith, common_steps)
