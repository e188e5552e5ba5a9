-- What an iterator that splits well-formed text at the characters of a set will yield.
use Rattle.std.specs.Prelude.{ℕ, Bool, List}
use Rattle.wide_forms.specs.EncodingForm.{EncodingForm}
use Rattle.wide_unit.specs.declared.unit.Unit.{Ghosts}
use Rattle.wide_ustr.specs.Sets.{cut_at_any}
use Rattle.wide_ustr.specs.Split.{substrings_left}
use Rattle.wide_ustr.specs.SplitMore.{filled_left}
use Rattle.wide_ustr.specs.declared.sets.AnyOf.{AnyOf}
use Rattle.wide_ustr.specs.declared.split.Split.{Split}
use Rattle.wide_ustr.specs.declared.split_filled.SplitFilled.{SplitFilled}
use Rattle.wide_utfstr.specs.View.{numbers_seen}
use Rattle.wide_utfstr.specs.declared.view.UtfStr.{UtfStr}

module _ {C S : Type 0} {g : Ghosts C} (form : EncodingForm) (number : C → ℕ) (has : S → ℕ → Bool) where
  -- The substrings of text that is split at any character of a set.
  abbrev pub any_substrings_left : Split (UtfStr C g) (AnyOf S) → List (List ℕ)
  any_substrings_left s = substrings_left (numbers_seen number) (cut_at_any form has) s

  -- The substrings of text that is split at any character of a set, and are not empty.
  abbrev pub any_filled_left : SplitFilled (UtfStr C g) (AnyOf S) → List (List ℕ)
  any_filled_left s = filled_left (numbers_seen number) (cut_at_any form has) s
