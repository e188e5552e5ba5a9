use Rattle.std.proofs.Common.{subst}
use Rattle.std.proofs.lemmas.List.{map-id}
use Rattle.wide_forms.specs.EncodingForm.{Utf32}
use Rattle.wide_forms.specs.Items.{IsFirstFault}
use Rattle.widestring_c.proofs.search.wide_utf32_first_fault_item.Goals as goal

pub returns-in-Err-clause-fault : goal.returns-in-Err-clause-fault
returns-in-Err-clause-fault c = λ ill_formed.
    let fault = c.in-Err.fault in
    (fault.index, fault.unit, subst (λ us. IsFirstFault Utf32 us fault.index fault.item fault.unit) (map-id c.args.units.now) c.in-Err.ensures.err)
