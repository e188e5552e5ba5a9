-- In UTF-32 each unit is an item, whatever its neighbours.
use Rattle.std.proofs.Common.{◌≡◌, ℕ, suc, List, [], ◌∷◌, ◌++◌, inl, inr, refl, sym, ◌∙◌, ap, length}
use Rattle.std.specs.Char.{IsScalar}
use Rattle.std.proofs.lemmas.List.{map-id}
use Rattle.std.proofs.lemmas.List.Concat.{flat_map_single}
use Rattle.wide_forms.specs.EncodingForm.{Utf32, encode}
use Rattle.wide_forms.specs.Segmentation.{Item, Char, Fault}
use Rattle.wide_forms.specs.Items.{items, chars, IsWellFormed}
use Rattle.wide_forms.specs.Laws.Forms.{IsFault-no_scalar, no_pair32, unit-cases}
use Rattle.wide_forms.specs.Laws.Items.{items-append, items-nil, encode-of_items, chars-of_well_formed}
use Rattle.wide_forms.specs.Laws.Ends.{items-first_char, items-first_fault}

-- In UTF-32 the items of concatenated lists are the concatenated items.
pub items32-append : (a b : List ℕ) → items Utf32 (a ++ b) ≡ items Utf32 a ++ items Utf32 b
items32-append a b = items-append Utf32 a b (λ prefix back h l e f. no_pair32 h l)

-- In UTF-32 a unit that is a scalar value is a character.
pub items32-char : (u : ℕ) (us : List ℕ) → IsScalar u → items Utf32 (u ∷ us) ≡ Char u ∷ items Utf32 us
items32-char u us is = items-first_char Utf32 (u ∷ us) us u u refl is refl

-- In UTF-32 a unit that is no scalar value is a fault.
pub items32-fault : (u : ℕ) (us : List ℕ) → ¬ (IsScalar u) → items Utf32 (u ∷ us) ≡ Fault u ∷ items Utf32 us
items32-fault u us isnt = items-first_fault Utf32 (u ∷ us) us u refl (IsFault-no_scalar u isnt) (λ l back e. no_pair32 u l)

one_item32 : (u : ℕ) (us : List ℕ) → (i : Item) × (items Utf32 (u ∷ us) ≡ i ∷ items Utf32 us)
one_item32 u us = elim (unit-cases Utf32 u) [
  | inl one ↦ (Char one.0, items-first_char Utf32 (u ∷ us) us u one.0 refl one.1 one.2)
  | inr fault ↦ (Fault u, items-first_fault Utf32 (u ∷ us) us u refl fault (λ l back e. no_pair32 u l))
]

-- In UTF-32 there are as many items as units.
pub length-items32 : (us : List ℕ) → length (items Utf32 us) ≡ length us
length-items32 [] = ap length (items-nil Utf32)
length-items32 (u ∷ us) = let at = one_item32 u us in ap length at.1 ∙ ap suc (length-items32 us)

-- In UTF-32 the encoding of characters is their numbers.
pub encode32 : (cs : List ℕ) → encode Utf32 cs ≡ cs
encode32 cs = flat_map_single (λ (c : ℕ). c) cs ∙ map-id cs

-- In UTF-32 the characters of well-formed units are the units.
pub chars32-well_formed : (us : List ℕ) → IsWellFormed Utf32 us → chars Utf32 us ≡ us
chars32-well_formed us well = sym (encode32 (chars Utf32 us)) ∙ encode-of_items Utf32 (chars Utf32 us) us (chars-of_well_formed Utf32 us well)
