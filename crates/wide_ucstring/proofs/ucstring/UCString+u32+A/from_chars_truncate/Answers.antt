use Rattle.wide_ucstring.specs.Made.{EndsAtFirst}
use Rattle.wide_ucstring.proofs.Ends.{of_numbers, ok_gives}
use Rattle.wide_ucstring.proofs.ucstring.UCString+u32+A.from_chars_truncate.Goals as goal

pub returns-clause-made : goal.returns-clause-made
returns-clause-made g c = rw (← c.in_ok-copy_of_chars.ensures.units) (ok_gives c.from_vec_truncate.result (λ s. of_numbers EndsAtFirst c.in_ok-copy_of_chars.field-0.items s.units) c.from_vec_truncate.ensures.made)
