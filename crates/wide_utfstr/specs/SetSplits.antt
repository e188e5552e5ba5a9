-- What the iterators over the substrings of well-formed text between the characters of a set will yield.
use Rattle.std.specs.Prelude.{ℕ, Bool, List}
use Rattle.wide_forms.specs.EncodingForm.{EncodingForm}
use Rattle.wide_unit.specs.declared.unit.Unit.{Ghosts}
use Rattle.wide_ustr.specs.Sets.{cut_at_any, kept_at_any, cut_back_any, kept_back_any}
use Rattle.wide_ustr.specs.SplitBack.{rsplit_left, rsplitn_left}
use Rattle.wide_ustr.specs.SplitInclusive.{inclusive_left}
use Rattle.wide_ustr.specs.SplitMore.{terminated_left}
use Rattle.wide_ustr.specs.SplitN.{splitn_left}
use Rattle.wide_ustr.specs.declared.sets.AnyOf.{AnyOf}
use Rattle.wide_ustr.specs.declared.split_back.RSplit.{RSplit}
use Rattle.wide_ustr.specs.declared.split_back.RSplitN.{RSplitN}
use Rattle.wide_ustr.specs.declared.split_inclusive.SplitInclusive.{SplitInclusive}
use Rattle.wide_ustr.specs.declared.split_n.SplitN.{SplitN}
use Rattle.wide_ustr.specs.declared.split_terminator.SplitTerminator.{SplitTerminator}
use Rattle.wide_utfstr.specs.View.{numbers_seen}
use Rattle.wide_utfstr.specs.declared.view.UtfStr.{UtfStr}

module _ {C S : Type 0} {g : Ghosts C} (form : EncodingForm) (number : C → ℕ) (has : S → ℕ → Bool) where
  -- At most a number of the substrings of text that is split at any character of a set.
  abbrev pub any_splitn_left : SplitN (UtfStr C g) (AnyOf S) → List (List ℕ)
  any_splitn_left s = splitn_left (numbers_seen number) (cut_at_any form has) (kept_at_any form has) s

  -- The substrings of text that is split at any character of a set, without an empty last one.
  abbrev pub any_terminated_left : SplitTerminator (UtfStr C g) (AnyOf S) → List (List ℕ)
  any_terminated_left s = terminated_left (numbers_seen number) (cut_at_any form has) s

  -- The substrings of text that is split after any character of a set.
  abbrev pub any_inclusive_left : SplitInclusive (UtfStr C g) (AnyOf S) → List (List ℕ)
  any_inclusive_left s = inclusive_left (numbers_seen number) (kept_at_any form has) s

  -- The substrings of text that is split at any character of a set, from the back.
  abbrev pub any_rsplit_left : RSplit (UtfStr C g) (AnyOf S) → List (List ℕ)
  any_rsplit_left s = rsplit_left (numbers_seen number) (cut_back_any form has) s

  -- At most a number of these.
  abbrev pub any_rsplitn_left : RSplitN (UtfStr C g) (AnyOf S) → List (List ℕ)
  any_rsplitn_left s = rsplitn_left (numbers_seen number) (cut_back_any form has) (kept_back_any form has) s
