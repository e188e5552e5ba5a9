use Rattle.std.proofs.Common.{rules, ◌≡◌, false, subst, ◌∙◌}
use Rattle.std.proofs.lemmas.List.{map-id}
use Rattle.wide_forms.specs.EncodingForm.{Utf16}
use Rattle.wide_forms.specs.Items.{IsWellFormed, IsFirstFault}
use Rattle.wide_utferror.specs.UtfError.{index_of, item_of, unit_of}
use Rattle.wide_bytes.specs.Bytes.{is_odd}
use Rattle.wide_include.proofs.include.include_utf16str.Goals as goal

pub returns-in-Ok-clause-ok : goal.returns-in-Ok-clause-ok
returns-in-Ok-clause-ok g c = subst (IsWellFormed Utf16) (map-id c.in_ok-found.found.items ∙ c.in_ok-found.ensures) c.in-Ok.ensures.ok

pub returns-in-Err-clause-err : goal.returns-in-Err-clause-err
returns-in-Err-clause-err g c =
    let even : is_odd c.args.bytes.now ≡ false = search rules in
    let first = subst (λ us. IsFirstFault Utf16 us (index_of c.in-Err.fault) (item_of c.in-Err.fault) (unit_of c.in-Err.fault)) (map-id c.in_ok-found.found.items ∙ c.in_ok-found.ensures) c.in-Err.ensures.fault.0 in
    (even, first, c.in_ok-found.found, c.in-Err.ensures.fault.1, c.in_ok-found.ensures)
