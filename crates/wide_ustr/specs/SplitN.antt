-- At most a number of the substrings of a view.
use Rattle.std.specs.Prelude.{ℕ, zero, suc, List, [], ◌∷◌, ◌++◌, take, drop, Option, Some, None}
use Rattle.wide_forms.specs.EncodingForm.{EncodingForm, code_units}
use Rattle.wide_search.specs.Cut.{substrings}
use Rattle.wide_search.specs.Substrings.{joined_with}
use Rattle.wide_ustr.specs.Kept.{limited, substrings_kept}
use Rattle.wide_ustr.specs.Split.{one_number}
use Rattle.wide_ustr.specs.View.{numbers_seen}
use Rattle.wide_ustr.specs.declared.view.UStr.{UStr}
use Rattle.wide_ustr.specs.declared.split.OneUnit.{OneUnit}
use Rattle.wide_ustr.specs.declared.split_n.SplitN.{SplitN}

module _ {A : Type 0} where
  -- The substrings, joined with the separator into one, or none if there are none.
  abbrev pub all_in_one : List A → List (List A) → List (List A)
  all_in_one needle [] = []
  all_in_one needle (substring ∷ more) = joined_with needle (substring ∷ more) ∷ []

  -- At most `count` substrings: all but the last of these, and as the last one all that follow, joined with the
  -- separator.
  abbrev pub splitn : ℕ → List A → List (List A) → List (List A)
  splitn zero needle substrings = []
  splitn (suc count) needle substrings = take count substrings ++ all_in_one needle (drop count substrings)

-- The substrings of what is left of a view, which may be cut this often.
abbrev pub splitn_of_rest : {V : Type 0} → (V → List ℕ) → (List ℕ → List (List ℕ)) → (List ℕ → List (List ℕ)) → ℕ → Option V → List (List ℕ)
splitn_of_rest seen cut kept cuts None = []
splitn_of_rest seen cut kept cuts (Some view) = limited (suc cuts) (cut (seen view)) (kept (seen view))

-- The numbers of the units of each substring that will be yielded, given the numbers of the units of a view, and how
-- units are split at a separator, without it and with it.
abbrev pub splitn_left : {V P : Type 0} → (V → List ℕ) → (P → List ℕ → List (List ℕ)) → (P → List ℕ → List (List ℕ)) → SplitN V P → List (List ℕ)
splitn_left seen cut_at kept_at s = splitn_of_rest seen (cut_at s.needle) (kept_at s.needle) s.cuts s.rest

module _ {C : Type 0} where
  -- The substrings of units that are split at units.
  abbrev pub unit_splitn_left : (C → ℕ) → SplitN (UStr C) (UStr C) → List (List ℕ)
  unit_splitn_left number s = splitn_left (numbers_seen number) (λ needle. substrings (numbers_seen number needle)) (λ needle. substrings_kept (numbers_seen number needle)) s

  -- The substrings of units that are split at one unit.
  abbrev pub one_splitn_left : (C → ℕ) → SplitN (UStr C) (OneUnit C) → List (List ℕ)
  one_splitn_left number s = splitn_left (numbers_seen number) (λ needle. substrings (one_number number needle)) (λ needle. substrings_kept (one_number number needle)) s

  -- The substrings of units that are split at a character.
  abbrev pub char_splitn_left : EncodingForm → (C → ℕ) → SplitN (UStr C) ℕ → List (List ℕ)
  char_splitn_left form number s = splitn_left (numbers_seen number) (λ c. substrings (code_units form c)) (λ c. substrings_kept (code_units form c)) s
