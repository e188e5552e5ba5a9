use Rattle.std.proofs.Common.{rules, Some}
use Rattle.wide_forms.specs.EncodingForm.{Utf32}
use Rattle.wide_iter.proofs.Ended.{unasked_first}
use Rattle.wide_iter.proofs.Steps.{none_left, first_unit32}
use Rattle.wide_iter.proofs.decode32.DecodeUtf32Iterator.next.Goals as goal

pub returns-in_err-unit-clause-steps : goal.returns-in_err-unit-clause-steps
returns-in_err-unit-clause-steps g c = record { at = λ rest reports. let end = unasked_first rest reports _ _ _ tt c.in_err-unit.ensures.steps in rw c.from_residual.ensures (none_left Utf32 _ _ end.0 end.1) }

pub returns-clause-steps : goal.returns-clause-steps
returns-clause-steps g c = record { at = λ rest reports. first_unit32 _ _ _ _ c.decode_unit.ensures (unasked_first rest reports _ _ (Some c.in_ok-unit.unit) (search rules) c.in_ok-unit.ensures.steps) }
