-- What an iterator over the substrings of a view will yield.
use Rattle.std.specs.Prelude.{ℕ, List, [], ◌∷◌, Option, Some, None}
use Rattle.wide_forms.specs.EncodingForm.{EncodingForm, code_units}
use Rattle.wide_search.specs.Cut.{substrings}
use Rattle.wide_ustr.specs.View.{numbers_seen}
use Rattle.wide_ustr.specs.declared.view.UStr.{UStr}
use Rattle.wide_ustr.specs.declared.split.OneUnit.{OneUnit}
use Rattle.wide_ustr.specs.declared.split.Split.{Split}

-- The substrings of the view that is left, given the numbers of its units and how units are split, or none if no view
-- is left.
abbrev pub substrings_of_rest : {V : Type 0} → (V → List ℕ) → (List ℕ → List (List ℕ)) → Option V → List (List ℕ)
substrings_of_rest seen cut None = []
substrings_of_rest seen cut (Some view) = cut (seen view)

-- The numbers of the units of each substring that will be yielded, given the numbers of the units of a view and how
-- units are split at a separator.
abbrev pub substrings_left : {V P : Type 0} → (V → List ℕ) → (P → List ℕ → List (List ℕ)) → Split V P → List (List ℕ)
substrings_left seen cut_at s = substrings_of_rest seen (cut_at s.needle) s.rest

-- The number of the unit of a separator.
abbrev pub one_number : {C : Type 0} → (C → ℕ) → OneUnit C → List ℕ
one_number number needle = number needle.unit ∷ []

module _ {C : Type 0} where
  -- The substrings of units that are split at units.
  abbrev pub unit_substrings_left : (C → ℕ) → Split (UStr C) (UStr C) → List (List ℕ)
  unit_substrings_left number s = substrings_left (numbers_seen number) (λ needle. substrings (numbers_seen number needle)) s

  -- The substrings of units that are split at one unit.
  abbrev pub one_substrings_left : (C → ℕ) → Split (UStr C) (OneUnit C) → List (List ℕ)
  one_substrings_left number s = substrings_left (numbers_seen number) (λ needle. substrings (one_number number needle)) s

  -- The substrings of units that are split at a character.
  abbrev pub char_substrings_left : EncodingForm → (C → ℕ) → Split (UStr C) ℕ → List (List ℕ)
  char_substrings_left form number s = substrings_left (numbers_seen number) (λ c. substrings (code_units form c)) s
