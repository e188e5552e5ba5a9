-- What the iterators over the substrings of a view from the back will yield.
use Rattle.std.specs.Prelude.{ℕ, List, map, reverse}
use Rattle.wide_forms.specs.EncodingForm.{EncodingForm, code_units}
use Rattle.wide_search.specs.Cut.{substrings}
use Rattle.wide_ustr.specs.Kept.{substrings_kept}
use Rattle.wide_ustr.specs.Split.{substrings_left}
use Rattle.wide_ustr.specs.SplitN.{splitn, splitn_left}
use Rattle.wide_ustr.specs.View.{numbers_seen}
use Rattle.wide_ustr.specs.declared.split_back.Back.{Back}
use Rattle.wide_ustr.specs.declared.split_back.RSplit.{RSplit}
use Rattle.wide_ustr.specs.declared.split_back.RSplitN.{RSplitN}
use Rattle.wide_ustr.specs.declared.view.UStr.{UStr}

-- The substrings of a list from the back: those of the reversed list at the reversed separator, each reversed. So each
-- split is at the last occurrence of the separator in what is before the split before.
abbrev pub substrings_back : List ℕ → List ℕ → List (List ℕ)
substrings_back needle whole = map reverse (substrings (reverse needle) (reverse whole))

-- At most `count` substrings of a list from the back: all but the last of these, and as the last one all that is before
-- them, unsplit.
abbrev pub rsplitn : ℕ → List ℕ → List ℕ → List (List ℕ)
rsplitn count needle whole = map reverse (splitn count (reverse needle) (substrings (reverse needle) (reverse whole)))

module _ {V : Type 0} (seen : V → List ℕ) where
  -- The numbers of the units of a view that is read from its end.
  abbrev pub seen_back : Back V → List ℕ
  seen_back it = reverse (seen it.view)

  module _ {P : Type 0} (cut_back : P → List ℕ → List (List ℕ)) where
    -- The numbers of the units of each substring that will be yielded from the back, given how units are split that are
    -- read from their end.
    abbrev pub rsplit_left : RSplit V P → List (List ℕ)
    rsplit_left s = map reverse (substrings_left seen_back cut_back s.all)

    -- The numbers of the units of each of at most a number of substrings that will be yielded from the back.
    abbrev pub rsplitn_left : (P → List ℕ → List (List ℕ)) → RSplitN V P → List (List ℕ)
    rsplitn_left kept_back s = map reverse (splitn_left seen_back cut_back kept_back s.all)

module _ {C : Type 0} where
  -- The substrings of units that are split at units, from the back.
  abbrev pub unit_rsplit_left : (C → ℕ) → RSplit (UStr C) (UStr C) → List (List ℕ)
  unit_rsplit_left number s = rsplit_left (numbers_seen number) (λ needle. substrings (reverse (numbers_seen number needle))) s

  -- The substrings of units that are split at a character, from the back.
  abbrev pub char_rsplit_left : EncodingForm → (C → ℕ) → RSplit (UStr C) ℕ → List (List ℕ)
  char_rsplit_left form number s = rsplit_left (numbers_seen number) (λ c. substrings (reverse (code_units form c))) s

  -- At most a number of the substrings of units that are split at units, from the back.
  abbrev pub unit_rsplitn_left : (C → ℕ) → RSplitN (UStr C) (UStr C) → List (List ℕ)
  unit_rsplitn_left number s = rsplitn_left (numbers_seen number) (λ needle. substrings (reverse (numbers_seen number needle))) (λ needle. substrings_kept (reverse (numbers_seen number needle))) s

  -- At most a number of the substrings of units that are split at a character, from the back.
  abbrev pub char_rsplitn_left : EncodingForm → (C → ℕ) → RSplitN (UStr C) ℕ → List (List ℕ)
  char_rsplitn_left form number s = rsplitn_left (numbers_seen number) (λ c. substrings (reverse (code_units form c))) (λ c. substrings_kept (reverse (code_units form c))) s
