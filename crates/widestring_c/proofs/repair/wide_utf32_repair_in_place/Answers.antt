use Rattle.std.proofs.Common.{◌∙◌, ap, sym}
use Rattle.std.proofs.lemmas.List.{map-id}
use Rattle.wide_forms.specs.EncodingForm.{Utf32}
use Rattle.wide_forms.specs.Items.{items}
use Rattle.wide_forms.specs.Lossy.{lossy}
use Rattle.wide_forms.specs.Laws.Utf32.{encode32}
use Rattle.widestring_c.proofs.repair.wide_utf32_repair_in_place.Goals as goal

pub returns-clause-units : goal.returns-clause-units
returns-clause-units c = sym (map-id _) ∙ c.repair_in_place.ensures.units ∙ encode32 _ ∙ ap (λ us. lossy (items Utf32 us)) (map-id c.args.units.now)
