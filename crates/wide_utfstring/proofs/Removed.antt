-- Removing the character at a boundary keeps the units well formed.
use Rattle.std.proofs.Common.{◌≡◌, ℕ, ◌+◌, ◌<◌, arith, get_or, List, [], ◌∷◌, ◌++◌, ap, sym, subst, ◌∙◌, length, map, take, drop}
use Rattle.std.specs.Char.{IsScalar}
use Rattle.std.specs.List.{splice}
use Rattle.std.proofs.lemmas.List.{take-append-drop, drop-drop, take-map, drop-map}
use Rattle.std.proofs.Math.Seq.{drop-append_seam}
use Rattle.wide_forms.specs.EncodingForm.{EncodingForm, code_units}
use Rattle.wide_forms.specs.Segmentation.{Item, Char, Fault, units_of}
use Rattle.wide_forms.specs.Items.{items, characters, chars, IsWellFormed, IsBoundary}
use Rattle.wide_forms.specs.Offsets.{chars_before}
use Rattle.wide_forms.specs.Laws.Items.{units_of-items}
use Rattle.wide_forms.specs.Laws.Offsets.{scalars-chars, IsOffsetOf-boundary, IsWellFormed-take, IsWellFormed-drop}
use Rattle.wide_forms.specs.Laws.Splices.{IsWellFormed-append, chars-append}
use Rattle.wide_ustring.specs.Taken.{item_code, TakesFirst}
use Rattle.wide_forms.specs.Laws.WellFormed.{no_first_fault, well_formed-rest}

-- The first item of well-formed units is a character.
module _ (form : EncodingForm) (us vs : List ℕ) (well : IsWellFormed form us) (code : ℕ) where
  as_char : (item : Item) → items form us ≡ item ∷ items form vs → code ≡ item_code item → items form us ≡ Char code ∷ items form vs
  as_char (Char c) was is = was ∙ ap (λ n. Char n ∷ items form vs) (sym is)
  as_char (Fault u) was is = absurd (no_first_fault form us vs well u was)

  pub takes_char : TakesFirst form us vs code → items form us ≡ Char code ∷ items form vs
  takes_char taken = as_char taken.item taken.was taken.is_code

  pub taken-scalar : TakesFirst form us vs code → IsScalar code
  taken-scalar taken =
      let first : chars form us ≡ code ∷ chars form vs = ap characters (takes_char taken) in
      subst (λ cs. IsScalar (get_or cs 0 0)) first (scalars-chars form us well 0 0 (subst (λ cs. 0 < length cs) (sym first) (omega arith)))

module _ (form : EncodingForm) (us vs : List ℕ) (at : ℕ) (well : IsWellFormed form us) (boundary : IsBoundary form us at) (prefix : take at vs ≡ take at us) (c : ℕ) (taken : TakesFirst form (drop at us) (drop at vs) c) where
  abbrev number : ℕ
  number = chars_before form us at

  was : items form (drop at us) ≡ Char c ∷ items form (drop at vs)
  was = takes_char form (drop at us) (drop at vs) (IsWellFormed-drop form us well at boundary) c taken

  rest-well_formed : IsWellFormed form (drop at vs)
  rest-well_formed = well_formed-rest form (drop at us) (drop at vs) (IsWellFormed-drop form us well at boundary) c was

  rest-chars : drop number (chars form us) ≡ c ∷ chars form (drop at vs)
  rest-chars = sym (IsOffsetOf-boundary form us well at boundary).rest ∙ ap characters was

  others-chars : drop (number + 1) (chars form us) ≡ chars form (drop at vs)
  others-chars = sym (drop-drop 1 number (chars form us)) ∙ ap (drop 1) rest-chars

  left : vs ≡ take at us ++ drop at vs
  left = sym (take-append-drop at vs) ∙ ap (λ xs. xs ++ drop at vs) prefix

  pub removed-well_formed : IsWellFormed form vs
  removed-well_formed =
      subst (λ xs. IsWellFormed form xs) (sym left) (IsWellFormed-append form (take at us) (drop at vs) (IsWellFormed-take form us well at boundary) rest-well_formed)

  pub removed-taken : drop number (chars form us) ≡ c ∷ drop (number + 1) (chars form us)
  removed-taken = rest-chars ∙ ap (λ cs. c ∷ cs) (sym others-chars)

  pub removed-text : chars form vs ≡ splice (chars form us) number (number + 1) []
  removed-text =
      ap (chars form) left ∙ chars-append form (take at us) (drop at vs) (IsWellFormed-take form us well at boundary)
      ∙ ap (λ cs. cs ++ chars form (drop at vs)) (IsOffsetOf-boundary form us well at boundary).prefix ∙ ap (λ cs. take number (chars form us) ++ cs) (sym others-chars)

  pub removed-units : vs ≡ splice us at (at + length (code_units form c)) []
  removed-units =
      let n = length (code_units form c) in
      let joined : drop at us ≡ code_units form c ++ drop at vs =
      sym (units_of-items form (drop at us)) ∙ ap (units_of form) was ∙ ap (λ xs. code_units form c ++ xs) (units_of-items form (drop at vs))
      in
      let beyond : drop (at + n) us ≡ drop at vs = sym (drop-drop n at us) ∙ ap (drop n) joined ∙ drop-append_seam (code_units form c) (drop at vs) in
      left ∙ ap (λ xs. take at us ++ xs) (sym beyond)

-- Removal of the first character, for units of any type, by their numbers.
module _ {X : Type 0} (form : EncodingForm) (number : X → ℕ) (xs ys : List X) (at c : ℕ) where
  pub taken_of_map : TakesFirst form (map number (drop at xs)) (map number (drop at ys)) c → TakesFirst form (drop at (map number xs)) (drop at (map number ys)) c
  taken_of_map taken = rw (drop-map number at xs, drop-map number at ys) taken

  pub prefix_of_map : take at ys ≡ take at xs → take at (map number ys) ≡ take at (map number xs)
  prefix_of_map prefix = take-map number at ys ∙ ap (map number) prefix ∙ sym (take-map number at xs)
