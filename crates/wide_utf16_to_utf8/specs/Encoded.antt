-- What encoding a prefix of some units as UTF-8 yields: its text, and where it stopped.
use Rattle.std.specs.Prelude.{◌≡◌, ℕ, zero, suc, nat_eq, if◌then◌else◌, ◌<◌, ◌≤◌, ◌+◌, ◌*◌, ◌/◌, ◌%◌, ◌⊎◌, List, [], ◌∷◌, ◌++◌, Option, Some, None}
use Rattle.std.specs.Char.{IsScalar}
use Rattle.std.specs.List.{All}
use Rattle.wide_forms.specs.EncodingForm.{Utf16, encode, IsHighSurrogate, IsLowSurrogate}
use Rattle.wide_forms.specs.Utf8.{utf8}

-- The units encode some characters, and `after` is `before` with the UTF-8 of those characters appended.
pub record EncodedUnits (us before after : List ℕ) : Type 0 where
  pub cs : List ℕ
  pub scalars : All IsScalar cs
  pub units : us ≡ encode Utf16 cs
  pub text : after ≡ before ++ utf8 cs

-- A prefix of the text was appended to `old`.
abbrev pub AppendsPrefix : List ℕ → List ℕ → List ℕ → Type 0
AppendsPrefix old new text = (more rest : List ℕ) × (new ≡ old ++ more) × (text ≡ more ++ rest)

-- A unit before these is an unpaired surrogate: a low one, or a high one that no low one follows.
abbrev pub IsUnpaired : ℕ → List ℕ → Type 0
IsUnpaired u tail = IsLowSurrogate Utf16 u ⊎ (IsHighSurrogate Utf16 u × ((l : ℕ) (back : List ℕ) → tail ≡ l ∷ back → ¬ (IsLowSurrogate Utf16 l)))

-- The first of the units is an unpaired surrogate, whatever follows these units.
abbrev pub BeginsWithFault : List ℕ → ℕ → Type 0
BeginsWithFault us u = (tail : List ℕ) × (us ≡ u ∷ tail) × (IsLowSurrogate Utf16 u ⊎ (IsHighSurrogate Utf16 u × (l : ℕ) × (back : List ℕ) × (tail ≡ l ∷ back) × ¬ (IsLowSurrogate Utf16 l)))

-- No unit is left, or only one high surrogate.
abbrev pub AreCutShort : List ℕ → Type 0
AreCutShort [] = Unit {0}
AreCutShort (u ∷ []) = IsHighSurrogate Utf16 u
AreCutShort (u ∷ v ∷ us) = ⊥

-- Encoding stopped before these units: at a fault, or because no complete character was left.
abbrev pub StopsBefore : List ℕ → Option ℕ → Type 0
StopsBefore us None = AreCutShort us
StopsBefore us (Some u) = BeginsWithFault us u

-- The first two UTF-8 bytes of a unit that is a character, as a number, low byte first.
pub record IsLead (u lead : ℕ) : Type 0 where
  pub one : u < 0x80 → lead ≡ u
  pub two : 0x80 ≤ u → u < 0x800 → lead ≡ 0x80c0 + u / 0x40 + u % 0x40 * 0x100
  pub three : 0x800 ≤ u → lead ≡ 0x80e0 + u / 0x1000 + u / 0x40 % 0x40 * 0x100

-- A high surrogate directly precedes a low one, and only a low one directly follows a high one.
pub record ArePaired (u v : ℕ) : Type 0 where
  pub low : 0xD800 ≤ u → u < 0xDC00 → (0xDC00 ≤ v) × (v < 0xE000)
  pub high : 0xDC00 ≤ v → v < 0xE000 → (0xD800 ≤ u) × (u < 0xDC00)

-- One bit for each of the first units, from the lowest on: set if the unit's upper six bits are `top`.
abbrev pub top_bits : ℕ → ℕ → List ℕ → ℕ
top_bits top zero us = 0
top_bits top (suc n) [] = 0
top_bits top (suc n) (u ∷ us) = (if nat_eq (u / 0x400) top then 1 else 0) + 2 * top_bits top n us

-- The first two UTF-8 bytes of a surrogate pair, as a number, low byte first. They depend on its high surrogate only.
abbrev pub high_word : ℕ → ℕ
high_word u = 0x80f0 + (u % 0x400 + 0x40) / 0x100 + (u % 0x400 + 0x40) / 4 % 0x40 * 0x100

-- The last two UTF-8 bytes of a surrogate pair, as a number, low byte first.
abbrev pub low_word : ℕ → ℕ → ℕ
low_word before u = 0x8080 + before % 4 * 0x10 + u / 0x40 % 0x10 + u % 0x40 * 0x100

-- A number whose first `len` bytes, low byte first, are the UTF-8 of a unit.
pub record IsWordOf (u word len : ℕ) : Type 0 where
  pub one : u < 0x80 → (word % 0x100 ≡ u) × (len ≡ 1)
  pub two : 0x80 ≤ u → u < 0x800 → (word % 0x10000 ≡ 0x80c0 + u / 0x40 + u % 0x40 * 0x100) × (len ≡ 2)
  pub three : 0x800 ≤ u → (word % 0x1000000 ≡ 0x8080e0 + u / 0x1000 + u / 0x40 % 0x40 * 0x100 + u % 0x40 * 0x10000) × (len ≡ 3)
