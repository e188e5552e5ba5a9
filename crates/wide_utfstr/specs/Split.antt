-- What an iterator over the substrings of well-formed text will yield.
use Rattle.std.specs.Prelude.{ℕ, List, reverse}
use Rattle.wide_forms.specs.EncodingForm.{EncodingForm, code_units}
use Rattle.wide_unit.specs.declared.unit.Unit.{Ghosts}
use Rattle.wide_search.specs.Cut.{substrings}
use Rattle.wide_ustr.specs.Kept.{substrings_kept}
use Rattle.wide_ustr.specs.Split.{substrings_left}
use Rattle.wide_ustr.specs.SplitN.{splitn_left}
use Rattle.wide_ustr.specs.SplitBack.{rsplit_left, rsplitn_left}
use Rattle.wide_ustr.specs.SplitInclusive.{inclusive_left}
use Rattle.wide_ustr.specs.SplitMore.{terminated_left}
use Rattle.wide_ustr.specs.declared.split.Split.{Split}
use Rattle.wide_ustr.specs.declared.split_back.RSplit.{RSplit}
use Rattle.wide_ustr.specs.declared.split_back.RSplitN.{RSplitN}
use Rattle.wide_ustr.specs.declared.split_inclusive.SplitInclusive.{SplitInclusive}
use Rattle.wide_ustr.specs.declared.split_n.SplitN.{SplitN}
use Rattle.wide_ustr.specs.declared.split_terminator.SplitTerminator.{SplitTerminator}
use Rattle.wide_utfstr.specs.View.{numbers_seen}
use Rattle.wide_utfstr.specs.declared.view.UtfStr.{UtfStr}

module _ {C : Type 0} {g : Ghosts C} where
  -- The substrings of text that is split at a text.
  abbrev pub text_substrings_left : (C → ℕ) → Split (UtfStr C g) (UtfStr C g) → List (List ℕ)
  text_substrings_left number s = substrings_left (numbers_seen number) (λ needle. substrings (numbers_seen number needle)) s

  -- The substrings of text that is split at a character.
  abbrev pub char_substrings_left : EncodingForm → (C → ℕ) → Split (UtfStr C g) ℕ → List (List ℕ)
  char_substrings_left form number s = substrings_left (numbers_seen number) (λ c. substrings (code_units form c)) s

  -- At most a number of the substrings of text that is split at a text.
  abbrev pub text_splitn_left : (C → ℕ) → SplitN (UtfStr C g) (UtfStr C g) → List (List ℕ)
  text_splitn_left number s = splitn_left (numbers_seen number) (λ needle. substrings (numbers_seen number needle)) (λ needle. substrings_kept (numbers_seen number needle)) s

  -- At most a number of the substrings of text that is split at a character.
  abbrev pub char_splitn_left : EncodingForm → (C → ℕ) → SplitN (UtfStr C g) ℕ → List (List ℕ)
  char_splitn_left form number s = splitn_left (numbers_seen number) (λ c. substrings (code_units form c)) (λ c. substrings_kept (code_units form c)) s

  -- The substrings of text that is split at a text, without an empty last one.
  abbrev pub text_terminated_left : (C → ℕ) → SplitTerminator (UtfStr C g) (UtfStr C g) → List (List ℕ)
  text_terminated_left number s = terminated_left (numbers_seen number) (λ needle. substrings (numbers_seen number needle)) s

  -- The substrings of text that is split at a character, without an empty last one.
  abbrev pub char_terminated_left : EncodingForm → (C → ℕ) → SplitTerminator (UtfStr C g) ℕ → List (List ℕ)
  char_terminated_left form number s = terminated_left (numbers_seen number) (λ c. substrings (code_units form c)) s

  -- The substrings of text that is split at a text, from the back.
  abbrev pub text_rsplit_left : (C → ℕ) → RSplit (UtfStr C g) (UtfStr C g) → List (List ℕ)
  text_rsplit_left number s = rsplit_left (numbers_seen number) (λ needle. substrings (reverse (numbers_seen number needle))) s

  -- The substrings of text that is split at a character, from the back.
  abbrev pub char_rsplit_left : EncodingForm → (C → ℕ) → RSplit (UtfStr C g) ℕ → List (List ℕ)
  char_rsplit_left form number s = rsplit_left (numbers_seen number) (λ c. substrings (reverse (code_units form c))) s

  -- At most a number of the substrings of text that is split at a text, from the back.
  abbrev pub text_rsplitn_left : (C → ℕ) → RSplitN (UtfStr C g) (UtfStr C g) → List (List ℕ)
  text_rsplitn_left number s = rsplitn_left (numbers_seen number) (λ needle. substrings (reverse (numbers_seen number needle))) (λ needle. substrings_kept (reverse (numbers_seen number needle))) s

  -- At most a number of the substrings of text that is split at a character, from the back.
  abbrev pub char_rsplitn_left : EncodingForm → (C → ℕ) → RSplitN (UtfStr C g) ℕ → List (List ℕ)
  char_rsplitn_left form number s = rsplitn_left (numbers_seen number) (λ c. substrings (reverse (code_units form c))) (λ c. substrings_kept (reverse (code_units form c))) s

  -- The substrings of text that is split after a text.
  abbrev pub text_inclusive_left : (C → ℕ) → SplitInclusive (UtfStr C g) (UtfStr C g) → List (List ℕ)
  text_inclusive_left number s = inclusive_left (numbers_seen number) (λ needle. substrings_kept (numbers_seen number needle)) s

  -- The substrings of text that is split after a character.
  abbrev pub char_inclusive_left : EncodingForm → (C → ℕ) → SplitInclusive (UtfStr C g) ℕ → List (List ℕ)
  char_inclusive_left form number s = inclusive_left (numbers_seen number) (λ c. substrings_kept (code_units form c)) s
