-- A prefix of UTF-8 as units, and scalar values from bytes, by the Standard's Table 3-6.
use Rattle.std.specs.Prelude.{◌≡◌, ℕ, ◌+◌, ◌*◌, ◌%◌, ◌<◌, ◌≤◌, List, [], ◌∷◌, ◌++◌, drop}
use Rattle.std.specs.Str.{IsUtf8}
use Rattle.std.specs.Str.{chars as str_chars}
use Rattle.wide_forms.specs.EncodingForm.{EncodingForm, encode}

-- `after` is `before` with the units of the text before an offset appended. The text from the offset on is UTF-8.
pub record IsDecoded (form : EncodingForm) (bytes : List ℕ) (offset : ℕ) (before after : List ℕ) : Type 0 where
  pub units : before ++ encode form (str_chars bytes) ≡ after ++ encode form (str_chars (drop offset bytes))
  pub rest : IsUtf8 (drop offset bytes)

-- The leading byte of a character of three bytes.
abbrev pub LeadsThree : ℕ → Type 0
LeadsThree byte = (0xE0 ≤ byte) × (byte < 0xF0)

-- The scalar value of two bytes.
abbrev pub code_of_two : ℕ → ℕ → ℕ
code_of_two a b = a % 0x20 * 0x40 + b % 0x40

-- The scalar value of three bytes.
abbrev pub code_of_three : ℕ → ℕ → ℕ → ℕ
code_of_three a b c = a % 0x10 * 0x1000 + b % 0x40 * 0x40 + c % 0x40

-- The scalar value of four bytes.
abbrev pub code_of_four : ℕ → ℕ → ℕ → ℕ → ℕ
code_of_four a b c d = a % 8 * 0x4_0000 + b % 0x40 * 0x1000 + c % 0x40 * 0x40 + d % 0x40

-- The scalar values of bytes, three by three.
abbrev pub codes_of_three : List ℕ → List ℕ
codes_of_three [] = []
codes_of_three (a ∷ []) = []
codes_of_three (a ∷ b ∷ []) = []
codes_of_three (a ∷ b ∷ c ∷ bs) = code_of_three a b c ∷ codes_of_three bs
