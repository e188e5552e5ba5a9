-- The halves of a pair between two texts in WTF-8.
use Rattle.std.specs.Prelude.{◌≡◌, ℕ, ◌-◌, ◌≤◌, List, ◌++◌, length, drop}
use Rattle.wide_forms.specs.EncodingForm.{Utf16, IsHighSurrogate, IsLowSurrogate}
use Rattle.wide_forms.specs.Laws.Items.{IsCut}
use Rattle.wide_forms.specs.Utf8.{utf8_bytes}
use Rattle.wide_wtf8.specs.Faults.{IsWtf8Of}

-- The text ends in the first half of a pair, and the other begins with the second half.
pub record AreHalves (text more : List ℕ) (high low : ℕ) : Type 0 where
  pub is_high : IsHighSurrogate Utf16 high
  pub is_low : IsLowSurrogate Utf16 low
  pub before : 3 ≤ length text
  pub end : drop (length text - 3) text ≡ utf8_bytes high
  pub after : 3 ≤ length more
  pub start : more ≡ utf8_bytes low ++ drop 3 more

-- No pair is split between the units of the texts.
abbrev pub AreApart : List ℕ → List ℕ → Type 0
AreApart text more = (us vs : List ℕ) → IsWtf8Of us text → IsWtf8Of vs more → IsCut Utf16 us vs
