-- The lossy text of well-formed units is their characters.
use Rattle.std.proofs.Common.{◌≡◌, ℕ, List, map, ap, ◌∙◌}
use Rattle.wide_forms.specs.EncodingForm.{EncodingForm}
use Rattle.wide_forms.specs.Items.{chars, IsWellFormed}
use Rattle.wide_forms.specs.Texts.{display_text}
use Rattle.wide_forms.specs.Utf8.{utf8}
use Rattle.wide_forms.specs.Laws.Lossy.{lossy-well_formed}

pub display_text-well_formed : {C : Type 0} (form : EncodingForm) (number : C → ℕ) (us vs : List C) → IsWellFormed form (map number us) → vs ≡ us → display_text form (map number vs) ≡ utf8 (chars form (map number us))
display_text-well_formed form number us vs well e = ap (λ xs. display_text form (map number xs)) e ∙ ap utf8 (lossy-well_formed form (map number us) well)
