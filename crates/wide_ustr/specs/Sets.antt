-- What an iterator that splits units at the characters of a set will yield.
use Rattle.std.specs.Prelude.{ℕ, Bool, List}
use Rattle.wide_forms.specs.EncodingForm.{EncodingForm}
use Rattle.wide_search.specs.Sets.{substrings_between}
use Rattle.wide_ustr.specs.Kept.{substrings_ended, substrings_between_back, substrings_ended_back}
use Rattle.wide_ustr.specs.Split.{substrings_left}
use Rattle.wide_ustr.specs.SplitMore.{filled_left}
use Rattle.wide_ustr.specs.View.{numbers_seen}
use Rattle.wide_ustr.specs.declared.sets.AnyOf.{AnyOf}
use Rattle.wide_ustr.specs.declared.split.Split.{Split}
use Rattle.wide_ustr.specs.declared.split_filled.SplitFilled.{SplitFilled}
use Rattle.wide_ustr.specs.declared.view.UStr.{UStr}

-- How units are split at any character of a set.
abbrev pub cut_at_any : {S : Type 0} → EncodingForm → (S → ℕ → Bool) → AnyOf S → List ℕ → List (List ℕ)
cut_at_any form has separator us = substrings_between form (has separator.set) us

-- How units are split at any character of a set that is kept.
abbrev pub kept_at_any : {S : Type 0} → EncodingForm → (S → ℕ → Bool) → AnyOf S → List ℕ → List (List ℕ)
kept_at_any form has separator us = substrings_ended form (has separator.set) us

-- How units that are read from their end are split at any character of a set, without it and with it.
abbrev pub cut_back_any : {S : Type 0} → EncodingForm → (S → ℕ → Bool) → AnyOf S → List ℕ → List (List ℕ)
cut_back_any form has separator us = substrings_between_back form (has separator.set) us

abbrev pub kept_back_any : {S : Type 0} → EncodingForm → (S → ℕ → Bool) → AnyOf S → List ℕ → List (List ℕ)
kept_back_any form has separator us = substrings_ended_back form (has separator.set) us

module _ {C S : Type 0} (form : EncodingForm) (number : C → ℕ) (has : S → ℕ → Bool) where
  -- The substrings of units that are split at any character of a set.
  abbrev pub any_substrings_left : Split (UStr C) (AnyOf S) → List (List ℕ)
  any_substrings_left s = substrings_left (numbers_seen number) (cut_at_any form has) s

  -- The substrings of units that are split at any character of a set, and are not empty.
  abbrev pub any_filled_left : SplitFilled (UStr C) (AnyOf S) → List (List ℕ)
  any_filled_left s = filled_left (numbers_seen number) (cut_at_any form has) s
