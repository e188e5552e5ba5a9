-- What the iterators over the substrings of units between the characters of a set will yield.
use Rattle.std.specs.Prelude.{ℕ, Bool, List, map, reverse}
use Rattle.wide_forms.specs.EncodingForm.{EncodingForm}
use Rattle.wide_search.specs.Sets.{substrings_between}
use Rattle.wide_ustr.specs.Kept.{limited, substrings_ended, substrings_between_back, substrings_ended_back}
use Rattle.wide_ustr.specs.Sets.{cut_at_any, kept_at_any, cut_back_any, kept_back_any}
use Rattle.wide_ustr.specs.SplitBack.{rsplit_left, rsplitn_left}
use Rattle.wide_ustr.specs.SplitInclusive.{inclusive_left}
use Rattle.wide_ustr.specs.SplitMore.{terminated_left}
use Rattle.wide_ustr.specs.SplitN.{splitn_left}
use Rattle.wide_ustr.specs.View.{numbers_seen}
use Rattle.wide_ustr.specs.declared.sets.AnyOf.{AnyOf}
use Rattle.wide_ustr.specs.declared.split_back.RSplit.{RSplit}
use Rattle.wide_ustr.specs.declared.split_back.RSplitN.{RSplitN}
use Rattle.wide_ustr.specs.declared.split_inclusive.SplitInclusive.{SplitInclusive}
use Rattle.wide_ustr.specs.declared.split_n.SplitN.{SplitN}
use Rattle.wide_ustr.specs.declared.split_terminator.SplitTerminator.{SplitTerminator}
use Rattle.wide_ustr.specs.declared.view.UStr.{UStr}

module _ (form : EncodingForm) (has : ℕ → Bool) where
  -- At most `count` substrings between the characters of a set: all but the last of these, and as the last one all that
  -- follows, unsplit.
  abbrev pub splitn_between : ℕ → List ℕ → List (List ℕ)
  splitn_between count us = limited count (substrings_between form has us) (substrings_ended form has us)

  -- The substrings between the characters of a set, from the back.
  abbrev pub rsplit_between : List ℕ → List (List ℕ)
  rsplit_between us = map reverse (substrings_between_back form has (reverse us))

  -- At most `count` of these: all but the last of these, and as the last one all that is before them, unsplit.
  abbrev pub rsplitn_between : ℕ → List ℕ → List (List ℕ)
  rsplitn_between count us = map reverse (limited count (substrings_between_back form has (reverse us)) (substrings_ended_back form has (reverse us)))

module _ {C S : Type 0} (form : EncodingForm) (number : C → ℕ) (has : S → ℕ → Bool) where
  -- At most a number of the substrings of units that are split at any character of a set.
  abbrev pub any_splitn_left : SplitN (UStr C) (AnyOf S) → List (List ℕ)
  any_splitn_left s = splitn_left (numbers_seen number) (cut_at_any form has) (kept_at_any form has) s

  -- The substrings of units that are split at any character of a set, without an empty last one.
  abbrev pub any_terminated_left : SplitTerminator (UStr C) (AnyOf S) → List (List ℕ)
  any_terminated_left s = terminated_left (numbers_seen number) (cut_at_any form has) s

  -- The substrings of units that are split after any character of a set.
  abbrev pub any_inclusive_left : SplitInclusive (UStr C) (AnyOf S) → List (List ℕ)
  any_inclusive_left s = inclusive_left (numbers_seen number) (kept_at_any form has) s

  -- The substrings of units that are split at any character of a set, from the back.
  abbrev pub any_rsplit_left : RSplit (UStr C) (AnyOf S) → List (List ℕ)
  any_rsplit_left s = rsplit_left (numbers_seen number) (cut_back_any form has) s

  -- At most a number of these.
  abbrev pub any_rsplitn_left : RSplitN (UStr C) (AnyOf S) → List (List ℕ)
  any_rsplitn_left s = rsplitn_left (numbers_seen number) (cut_back_any form has) (kept_back_any form has) s
