use Rattle.std.proofs.Common.{arith}
use Rattle.std.proofs.lemmas.Grind.{common_steps}
use Rattle.std.proofs.lemmas.Result.{err_from_is_err_and}
use Rattle.wide_forms.specs.EncodingForm.{Utf16}
use Rattle.wide_utfstring.proofs.Copies.{fault-of_copy}
use Rattle.wide_utfstring.proofs.convert.UtfString+u16+A.from_ustr.Goals as goal

pub returns-in_err-from_ustring-clause-fault : goal.returns-in_err-from_ustring-clause-fault
returns-in_err-from_ustring-clause-fault g c =
    let made = err_from_is_err_and c.from_residual-in_err-from_ustring.result c.from_residual-in_err-from_ustring.ensures.1 in
    let copy = c.in_ok-to_ustring in
    rw (made.1, made.2) (fault-of_copy Utf16 copy.field-0.units _ copy.ensures.units _ c.in_err-from_ustring.field-0.0 c.in_err-from_ustring.ensures.fault)

pub returns-clause-ok : goal.returns-clause-ok
returns-clause-ok g c = grind (arith, common_steps)
