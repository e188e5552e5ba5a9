-- Units that begin with the same items are in the order of the code points that follow these.
use Rattle.std.proofs.Common.{◌≡◌, ℕ, ◌≤◌, List, [], ◌∷◌, ◌++◌, map, take, drop, inl, inr, refl, sym, ap, ◌∙◌}
use Rattle.std.proofs.lemmas.List.{map-append, take-append-drop, take-take}
use Rattle.std.specs.Ordering.{nat_cmp}
use Rattle.std.specs.Cmp.Lexicographic.{slice_cmp}
use Rattle.wide_forms.specs.EncodingForm.{EncodingForm, Utf32}
use Rattle.wide_forms.specs.Segmentation.{Char}
use Rattle.wide_forms.specs.Items.{items, chars, IsWellFormed}
use Rattle.wide_forms.specs.Laws.Forms.{no_pair32, unit-cases}
use Rattle.wide_forms.specs.Laws.Items.{IsCut, items-append, items-nil, chars-of_well_formed}
use Rattle.wide_forms.specs.Laws.Ends.{items-first_char, items-first_fault}
use Rattle.wide_unit.specs.CodePoints.{code_of, code_points}
use Rattle.wide_unit.proofs.Skipped.{cmp-skip}

codes-of_chars : (cs : List ℕ) → map code_of (map Char cs) ≡ cs
codes-of_chars [] = refl
codes-of_chars (c ∷ cs) = ap (λ ds. c ∷ ds) (codes-of_chars cs)

-- The code points of well-formed units are those of their characters.
pub points-of_chars : (form : EncodingForm) (us : List ℕ) → IsWellFormed form us → code_points form us ≡ chars form us
points-of_chars form us well = ap (map code_of) (chars-of_well_formed form us well) ∙ codes-of_chars (chars form us)

-- In UTF-32 the code points are the units.
pub points32 : (us : List ℕ) → code_points Utf32 us ≡ us
points32 [] = ap (map code_of) (items-nil Utf32)
points32 (u ∷ us) = elim (unit-cases Utf32 u) [
  | inl one ↦ (let same : one.0 ≡ u = cc in ap (map code_of) (items-first_char Utf32 (u ∷ us) us u one.0 refl one.1 one.2) ∙ ap (λ v. v ∷ code_points Utf32 us) same ∙ ap (λ vs. u ∷ vs) (points32 us))
  | inr fault ↦ ap (map code_of) (items-first_fault Utf32 (u ∷ us) us u refl fault (λ l back e. no_pair32 u l)) ∙ ap (λ vs. u ∷ vs) (points32 us)
]

module _ {X : Type 0} (number : X → ℕ) (form : EncodingForm) where
  abbrev pub points : List X → List ℕ
  points us = code_points form (map number us)

  points-parted : (whole : List X) (at : ℕ) → IsCut form (map number (take at whole)) (map number (drop at whole)) → points whole ≡ points (take at whole) ++ points (drop at whole)
  points-parted whole at cut =
      ap points (sym (take-append-drop at whole)) ∙ ap (code_points form) (map-append number (take at whole) (drop at whole))
      ∙ ap (map code_of) (items-append form (map number (take at whole)) (map number (drop at whole)) cut) ∙ map-append code_of (items form (map number (take at whole))) (items form (map number (drop at whole)))

  pub order-of_rest : (us vs : List X) (shared at : ℕ) → take shared us ≡ take shared vs → at ≤ shared
      → IsCut form (map number (take at us)) (map number (drop at us)) → IsCut form (map number (take at vs)) (map number (drop at vs))
      → slice_cmp nat_cmp (points (drop at us)) (points (drop at vs)) ≡ slice_cmp nat_cmp (points us) (points vs)
  order-of_rest us vs shared at same within cut_us cut_vs =
      let alike : take at vs ≡ take at us = sym (take-take at shared vs within) ∙ ap (take at) (sym same) ∙ take-take at shared us within in
      sym (ap (λ cs. slice_cmp nat_cmp cs (points vs)) (points-parted us at cut_us)
      ∙ ap (slice_cmp nat_cmp (points (take at us) ++ points (drop at us))) (points-parted vs at cut_vs ∙ ap (λ ws. points ws ++ points (drop at vs)) alike)
      ∙ cmp-skip (points (take at us)) (points (drop at us)) (points (drop at vs)))
