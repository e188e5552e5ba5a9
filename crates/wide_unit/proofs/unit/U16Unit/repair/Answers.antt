use Rattle.std.proofs.Common.{◌∙◌, ℕ, List, sym, ap, length, take}
use Rattle.std.proofs.lemmas.List.{map-id}
use Rattle.wide_forms.specs.EncodingForm.{Utf16, encode}
use Rattle.wide_forms.specs.Items.{items}
use Rattle.wide_forms.specs.Lossy.{lossy}
use Rattle.wide_unit.proofs.unit.U16Unit.repair.Goals as goal

pub returns-clause-units : goal.returns-clause-units
returns-clause-units c =
    let us = c.args.units.now in
    map-id (take (length us) c.repair_16.new.repaired) ∙ c.repair_16.ensures.units ∙ ap (λ (vs : List ℕ). encode Utf16 (lossy (items Utf16 vs))) (sym (map-id us))
