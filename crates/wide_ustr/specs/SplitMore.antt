-- What the iterators over the substrings that are not empty, or without an empty last one, will yield.
use Rattle.std.specs.Prelude.{ℕ, Bool, true, false, if◌then◌else◌, List, [], ◌∷◌}
use Rattle.std.specs.List.{filter}
use Rattle.wide_forms.specs.EncodingForm.{EncodingForm, code_units}
use Rattle.wide_search.specs.Cut.{substrings}
use Rattle.wide_ustr.specs.Split.{substrings_left}
use Rattle.wide_ustr.specs.View.{numbers_seen}
use Rattle.wide_ustr.specs.declared.split_filled.SplitFilled.{SplitFilled}
use Rattle.wide_ustr.specs.declared.split_terminator.SplitTerminator.{SplitTerminator}
use Rattle.wide_ustr.specs.declared.view.UStr.{UStr}

module _ {A : Type 0} where
  -- Whether a list has an element.
  abbrev pub is_filled : List A → Bool
  is_filled [] = false
  is_filled (x ∷ xs) = true

  -- The lists that are not empty.
  abbrev pub filled : List (List A) → List (List A)
  filled lists = filter is_filled lists

  -- The lists, without the last one if that is empty.
  abbrev pub terminated : List (List A) → List (List A)
  terminated [] = []
  terminated ([] ∷ []) = []
  terminated ((x ∷ xs) ∷ []) = (x ∷ xs) ∷ []
  terminated (first ∷ next ∷ more) = first ∷ terminated (next ∷ more)

-- How units are split at a separator, without an empty last substring, given how they are split at it.
abbrev pub terminated_at : {P : Type 0} → (P → List ℕ → List (List ℕ)) → P → List ℕ → List (List ℕ)
terminated_at cut_at separator us = terminated (cut_at separator us)

-- The numbers of the units of each substring that is not empty.
abbrev pub filled_left : {V P : Type 0} → (V → List ℕ) → (P → List ℕ → List (List ℕ)) → SplitFilled V P → List (List ℕ)
filled_left seen cut_at s = filled (substrings_left seen cut_at s.all)

-- The numbers of the units of each substring, without an empty last one, unless one was taken from the back.
abbrev pub terminated_left : {V P : Type 0} → (V → List ℕ) → (P → List ℕ → List (List ℕ)) → SplitTerminator V P → List (List ℕ)
terminated_left seen cut_at s = if s.last_taken then substrings_left seen cut_at s.all else terminated (substrings_left seen cut_at s.all)

module _ {C : Type 0} where
  -- The substrings of units that are split at units, without an empty last one.
  abbrev pub unit_terminated_left : (C → ℕ) → SplitTerminator (UStr C) (UStr C) → List (List ℕ)
  unit_terminated_left number s = terminated_left (numbers_seen number) (λ needle. substrings (numbers_seen number needle)) s

  -- The substrings of units that are split at a character, without an empty last one.
  abbrev pub char_terminated_left : EncodingForm → (C → ℕ) → SplitTerminator (UStr C) ℕ → List (List ℕ)
  char_terminated_left form number s = terminated_left (numbers_seen number) (λ c. substrings (code_units form c)) s
