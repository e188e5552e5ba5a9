use Rattle.std.proofs.Common.{ℕ, subst}
use Rattle.std.proofs.lemmas.List.{map-id}
use Rattle.wide_forms.specs.EncodingForm.{Utf16}
use Rattle.wide_forms.specs.Items.{IsFirstFault}
use Rattle.wide_forms.specs.Offsets.{text_before}
use Rattle.widestring_c.proofs.search.wide_utf16_first_fault.Goals as goal

pub returns-in-Some-clause-fault : goal.returns-in-Some-clause-fault
returns-in-Some-clause-fault c = λ below.
    let fault = c.in-Some in
    let item = text_before Utf16 (λ (u : ℕ). u) c.args.units.now fault.index in
    (item, fault._unit, subst (λ us. IsFirstFault Utf16 us fault.index item fault._unit) (map-id c.args.units.now) fault.ensures.some)
