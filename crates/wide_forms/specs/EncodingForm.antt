-- The encoding forms of the Standard (D79): how a scalar value (D76) is encoded in code units (D77).
use Rattle.std.specs.Prelude.{◌≡◌, ◌≢◌, ℕ, ◌+◌, ◌-◌, ◌/◌, ◌%◌, ◌<◌, ◌≤◌, ◌^◌, nat_lt, if◌then◌else◌, List, [], ◌∷◌}
use Rattle.std.specs.Char.{IsScalar}
use Rattle.std.specs.List.{flat_map}

-- UTF-16 or UTF-32.
pub data EncodingForm : Type 0 where
  Utf16 : EncodingForm
  Utf32 : EncodingForm

-- The code unit sequence of a scalar value: in UTF-16 by the Standard's D91 and its Table 3-5, in UTF-32, by D90, the
-- value itself.
abbrev pub code_units : EncodingForm → ℕ → List ℕ
code_units Utf16 c = if nat_lt c 0x1_0000 then c ∷ [] else (0xD800 + (c - 0x1_0000) / 0x400) ∷ (0xDC00 + (c - 0x1_0000) % 0x400) ∷ []
code_units Utf32 c = c ∷ []

-- The code unit sequence of a list of scalar values.
abbrev pub encode : EncodingForm → List ℕ → List ℕ
encode form cs = flat_map (code_units form) cs

-- The numbers that are code units.
abbrev pub IsCodeUnit : EncodingForm → ℕ → Type 0
IsCodeUnit Utf16 u = u < 2 ^ 16
IsCodeUnit Utf32 u = u < 2 ^ 32

-- The high-surrogate code units (the Standard's D72). UTF-32 has none.
abbrev pub IsHighSurrogate : EncodingForm → ℕ → Type 0
IsHighSurrogate Utf16 u = (0xD800 ≤ u) × (u ≤ 0xDBFF)
IsHighSurrogate Utf32 u = ⊥

-- The low-surrogate code units (the Standard's D74). UTF-32 has none.
abbrev pub IsLowSurrogate : EncodingForm → ℕ → Type 0
IsLowSurrogate Utf16 u = (0xDC00 ≤ u) × (u ≤ 0xDFFF)
IsLowSurrogate Utf32 u = ⊥

-- The unit by itself is not the code unit sequence of any scalar value.
abbrev pub IsFault : EncodingForm → ℕ → Type 0
IsFault form u = (c : ℕ) → IsScalar c → code_units form c ≢ u ∷ []

-- The two units are the code unit sequence of a scalar value: in UTF-16 a surrogate pair (the Standard's D75).
abbrev pub IsPair : EncodingForm → ℕ → ℕ → Type 0
IsPair form h l = (c : ℕ) × IsScalar c × (code_units form c ≡ h ∷ l ∷ [])
