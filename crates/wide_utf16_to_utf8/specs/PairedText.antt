-- The UTF-8 of paired units, unit by unit: a high surrogate yields the first two of the four bytes of its pair, and a
-- low surrogate yields the last two.
use Rattle.std.specs.Prelude.{◌≡◌, ℕ, ◌<◌, ◌≤◌, ◌+◌, ◌*◌, ◌/◌, ◌%◌, nat_eq, nat_lt, if◌then◌else◌, List, [], ◌∷◌, ◌++◌}
use Rattle.wide_forms.specs.Utf8.{utf8_bytes}
use Rattle.wide_utf16_to_utf8.specs.Encoded.{high_word, low_word}

-- The bytes that a unit yields, given the unit before it.
abbrev pub paired_bytes : ℕ → ℕ → List ℕ
paired_bytes before u =
    if nat_lt u 0xD800 then utf8_bytes u
    else if nat_lt u 0xDC00 then high_word u % 0x100 ∷ high_word u / 0x100 ∷ []
    else if nat_lt u 0xE000 then low_word before u % 0x100 ∷ low_word before u / 0x100 ∷ []
    else utf8_bytes u

-- The bytes that all units but the first yield.
abbrev pub paired_text : List ℕ → List ℕ
paired_text [] = []
paired_text (before ∷ []) = []
paired_text (before ∷ u ∷ us) = paired_bytes before u ++ paired_text (u ∷ us)

-- The first two bytes that a unit yields, as a number, low byte first.
pub record IsPairedLead (before u lead : ℕ) : Type 0 where
  pub one : u < 0x80 → lead ≡ u
  pub two : 0x80 ≤ u → u < 0x800 → lead ≡ 0x80c0 + u / 0x40 + u % 0x40 * 0x100
  pub three : 0x800 ≤ u → (0xD800 ≤ u → 0xE000 ≤ u) → lead ≡ 0x80e0 + u / 0x1000 + u / 0x40 % 0x40 * 0x100
  pub high : 0xD800 ≤ u → u < 0xDC00 → lead ≡ high_word u
  pub low : 0xDC00 ≤ u → u < 0xE000 → lead ≡ low_word before u

-- A unit whose UTF-8 is as long as what the unit yields: 0x80 for a surrogate, which yields two bytes.
abbrev pub paired_key : ℕ → ℕ
paired_key u = if nat_eq (u / 0x800) 27 then 0x80 else u
