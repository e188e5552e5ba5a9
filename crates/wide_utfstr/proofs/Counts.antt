-- Bounds on the number of characters of well-formed units.
use Rattle.std.proofs.Common.{◌≡◌, ℕ, ◌*◌, ◌/◌, ◌≤◌, List, [], ◌∷◌, inl, inr, ◌∙◌, ap, arith, length, length-append, map}
use Rattle.std.proofs.lemmas.List.{length-map}
use Rattle.std.proofs.Math.Nat.{div-le_of_le-mul}
use Rattle.wide_forms.specs.EncodingForm.{EncodingForm, Utf16, Utf32, code_units, encode}
use Rattle.wide_forms.specs.Items.{chars, IsWellFormed}
use Rattle.wide_forms.specs.Laws.Forms.{code_units-cases, some_units}
use Rattle.wide_forms.specs.Laws.Offsets.{encode-chars}

-- A character takes at least one unit, and at most as many as U+10000.
most_of : (form : EncodingForm) (most : ℕ) → length (code_units form 0x1_0000) ≤ most → (c : ℕ) → length (code_units form c) ≤ most
most_of Utf16 most all c = elim (code_units-cases Utf16 c) [
  | inl one ↦ rw one.1 (omega arith)
  | inr two ↦ rw two.2 all
]
most_of Utf32 most all c = all

module _ (form : EncodingForm) where
  at_most_units : (cs : List ℕ) → length cs ≤ length (encode form cs)
  at_most_units [] = omega arith
  at_most_units (c ∷ cs) = omega (arith, length-append (code_units form c) (encode form cs), some_units form c, at_most_units cs)

  at_least_units : (most : ℕ) → length (code_units form 0x1_0000) ≤ most → (cs : List ℕ) → length (encode form cs) ≤ most * length cs
  at_least_units most longest [] = omega arith
  at_least_units most longest (c ∷ cs) = omega (arith, length-append (code_units form c) (encode form cs), most_of form most longest c, at_least_units most longest cs)

-- The number of characters is at most the number of units, and at least the number of units divided by `most`, which no
-- character exceeds.
module _ {X : Type 0} (form : EncodingForm) (number : X → ℕ) (xs : List X) (well : IsWellFormed form (map number xs)) where
  all_units : length (encode form (chars form (map number xs))) ≡ length xs
  all_units = ap length (encode-chars form (map number xs) well) ∙ length-map xs number

  -- There are at most as many characters as units.
  pub chars-at_most : length (chars form (map number xs)) ≤ length xs
  chars-at_most = omega (arith, at_most_units form (chars form (map number xs)), all_units)

  -- There are at least as many characters as units divided by `most`.
  pub chars-at_least : (most : ℕ) → length (code_units form 0x1_0000) ≤ most → length xs / most ≤ length (chars form (map number xs))
  chars-at_least most longest = div-le_of_le-mul most (omega (arith, at_least_units form most longest (chars form (map number xs)), all_units))
