-- The bytes of code units in the encoding schemes of UTF-16 and UTF-32: the Standard's D96, D97, D99 and D100.
use Rattle.std.specs.Prelude.{ℕ, ◌/◌, ◌%◌, List, [], ◌∷◌}
use Rattle.std.specs.List.{flat_map}
use Rattle.wide_forms.specs.EncodingForm.{EncodingForm, Utf16, Utf32}

-- The number of bytes in a code unit.
abbrev pub unit_width : EncodingForm → ℕ
unit_width Utf16 = 2
unit_width Utf32 = 4

-- The bytes of a code unit, the low byte first: in UTF-16LE (D97) and in UTF-32LE (D100).
abbrev pub little_bytes : EncodingForm → ℕ → List ℕ
little_bytes Utf16 u = (u % 0x100) ∷ (u / 0x100) ∷ []
little_bytes Utf32 u = (u % 0x100) ∷ (u / 0x100 % 0x100) ∷ (u / 0x1_0000 % 0x100) ∷ (u / 0x100_0000) ∷ []

-- The bytes of a code unit, the high byte first: in UTF-16BE (D96) and in UTF-32BE (D99).
abbrev pub big_bytes : EncodingForm → ℕ → List ℕ
big_bytes Utf16 u = (u / 0x100) ∷ (u % 0x100) ∷ []
big_bytes Utf32 u = (u / 0x100_0000) ∷ (u / 0x1_0000 % 0x100) ∷ (u / 0x100 % 0x100) ∷ (u % 0x100) ∷ []

-- The bytes of code units, one unit after another, the low byte of each first.
abbrev pub little_bytes_of : EncodingForm → List ℕ → List ℕ
little_bytes_of form units = flat_map (little_bytes form) units

-- The bytes of code units, one unit after another, the high byte of each first.
abbrev pub big_bytes_of : EncodingForm → List ℕ → List ℕ
big_bytes_of form units = flat_map (big_bytes form) units

-- The BOM, U+FEFF, which is one code unit in either form (section 23.8).
abbrev pub byte_order_mark : ℕ
byte_order_mark = 0xFEFF
