use Rattle.std.proofs.Common.{◌≡◌, ◌∷◌, [], ℕ, List, map, length, get_or, refl, sym, subst, ◌∙◌, ap, Some, slice_get, ◌<◌}
use Rattle.std.specs.Char.{IsScalar}
use Rattle.std.proofs.lemmas.List.{map-id}
use Rattle.std.proofs.lemmas.Option.{slice_get-get_or}
use Rattle.wide_forms.specs.EncodingForm.{Utf32}
use Rattle.wide_forms.specs.Items.{IsWellFormed}
use Rattle.wide_forms.specs.Laws.Utf32.{chars32-well_formed}
use Rattle.wide_forms.specs.Laws.Offsets.{scalars-chars}
use Rattle.wide_utfstr.proofs.view.UtfStr+u32.char_at.Goals as goal

well32 : (us : List ℕ) → IsWellFormed Utf32 (map (λ u. u) us) → IsWellFormed Utf32 us
well32 us well = subst (λ vs. IsWellFormed Utf32 vs) (map-id us) well

scalar_at : (us : List ℕ) (index : ℕ) → IsWellFormed Utf32 us → index < length us → IsScalar (get_or us index 0)
scalar_at us index well within =
    let same = chars32-well_formed us well in
    subst (λ vs. IsScalar (get_or vs index 0)) same (scalars-chars Utf32 us well index 0 (subst (λ vs. index < length vs) (sym same) within))

pub unreachable-requires : goal.unreachable-requires
unreachable-requires c =
    let us = c.args.self.units.now in
    c.in_default.ensures (get_or us c.args.index 0) (scalar_at us c.args.index (well32 us c.args.self.well_formed) c.requires) refl

pub returns-clause-unit : goal.returns-clause-unit
returns-clause-unit c =
    let one : c.in-Some.c ∷ [] ≡ get_or c.args.self.units.now c.args.index 0 ∷ [] = c.in-Some.ensures.1 in
    let unit : get_or c.args.self.units.now c.args.index 0 ≡ c.in-Some.c = cc in
    slice_get-get_or c.args.self.units.now c.args.index 0 c.requires ∙ ap (λ u. Some u) unit

pub returns-clause-character : goal.returns-clause-character
returns-clause-character c =
    let us = c.args.self.units.now in
    ap (λ vs. slice_get vs c.args.index) (chars32-well_formed us (well32 us c.args.self.well_formed)) ∙ returns-clause-unit c
