-- What the iterators over the substrings of a view that keep their separators will yield.
use Rattle.std.specs.Prelude.{ℕ, List, [], ◌∷◌, ◌++◌, Option, Some, None}
use Rattle.wide_forms.specs.EncodingForm.{EncodingForm, code_units}
pub use Rattle.wide_ustr.specs.Kept.{joined}
use Rattle.wide_ustr.specs.Kept.{substrings_kept}
use Rattle.wide_ustr.specs.SplitMore.{terminated}
use Rattle.wide_ustr.specs.View.{numbers_seen}
use Rattle.wide_ustr.specs.declared.split_inclusive.SplitInclusive.{SplitInclusive}
use Rattle.wide_ustr.specs.declared.view.UStr.{UStr}

module _ {A : Type 0} where
  -- Each substring with the separator after it, and the last one, which has none, unless it is empty.
  abbrev pub inclusive : List A → List (List A) → List (List A)
  inclusive needle [] = []
  inclusive needle ([] ∷ []) = []
  inclusive needle ((x ∷ xs) ∷ []) = (x ∷ xs) ∷ []
  inclusive needle (substring ∷ next ∷ more) = (substring ++ needle) ∷ inclusive needle (next ∷ more)

-- The substrings of the view that is left with their separators, or none if no view is left.
abbrev pub inclusive_of_rest : {V : Type 0} → (V → List ℕ) → (List ℕ → List (List ℕ)) → Option V → List (List ℕ)
inclusive_of_rest seen kept None = []
inclusive_of_rest seen kept (Some view) = terminated (kept (seen view))

-- The numbers of the units of each substring that will be yielded, given the numbers of the units of a view and how
-- units are split at a separator that is kept.
abbrev pub inclusive_left : {V P : Type 0} → (V → List ℕ) → (P → List ℕ → List (List ℕ)) → SplitInclusive V P → List (List ℕ)
inclusive_left seen kept_at s = inclusive_of_rest seen (kept_at s.needle) s.rest

module _ {C : Type 0} where
  -- The substrings of units that are split after units.
  abbrev pub unit_inclusive_left : (C → ℕ) → SplitInclusive (UStr C) (UStr C) → List (List ℕ)
  unit_inclusive_left number s = inclusive_left (numbers_seen number) (λ needle. substrings_kept (numbers_seen number needle)) s

  -- The substrings of units that are split after a character.
  abbrev pub char_inclusive_left : EncodingForm → (C → ℕ) → SplitInclusive (UStr C) ℕ → List (List ℕ)
  char_inclusive_left form number s = inclusive_left (numbers_seen number) (λ c. substrings_kept (code_units form c)) s
