-- The laws of WTF-8. Each is the contract of a function of `laws`.
use Rattle.std.specs.Prelude.{◌≡◌, ℕ, ◌+◌, ◌-◌, ◌*◌, ◌≤◌, ◌↔◌, List, [], ◌∷◌, ◌++◌, false, map, length, take}
use Rattle.std.specs.List.{All, Contains}
use Rattle.std.specs.Str.{IsUtf8}
use Rattle.wide_forms.specs.EncodingForm.{Utf16, IsCodeUnit, IsHighSurrogate, IsLowSurrogate, encode}
use Rattle.wide_forms.specs.Items.{IsWellFormed, characters, chars}
use Rattle.wide_forms.specs.Segmentation.{Char, Fault}
use Rattle.wide_forms.specs.Utf8.{utf8, utf8_bytes}
use Rattle.wide_forms.specs.Laws.Items.{IsCut}
use Rattle.wide_unit.specs.CodePoints.{code_points}
use Rattle.wide_schemes.specs.Wtf8.{IsWtf8, wtf8}
use Rattle.wide_schemes.specs.Wtf8Items.{wtf8_items}
use Rattle.wide_wtf8.specs.Faults.{IsFirstWtf8Fault}

-- Different units have different texts.
abbrev pub TextIsOfOneList : Type 0
TextIsOfOneList = (us vs : List ℕ) → All (IsCodeUnit Utf16) us → All (IsCodeUnit Utf16) vs → wtf8 us ≡ wtf8 vs → us ≡ vs

-- The text of units is UTF-8 exactly if the units are well formed.
abbrev pub WellFormedIsUtf8 : Type 0
WellFormedIsUtf8 = (us : List ℕ) → All (IsCodeUnit Utf16) us → IsUtf8 (wtf8 us) ↔ IsWellFormed Utf16 us

-- The text of well-formed units is the UTF-8 of their characters.
abbrev pub WellFormedHasUtf8 : Type 0
WellFormedHasUtf8 = (us : List ℕ) → IsWellFormed Utf16 us → wtf8 us ≡ utf8 (chars Utf16 us)

-- The items of the text of units are their code points.
abbrev pub TextIsOfCodePoints : Type 0
TextIsOfCodePoints = (us : List ℕ) → All (IsCodeUnit Utf16) us → wtf8_items false (wtf8 us) ≡ map Char (code_points Utf16 us)

-- The units of the code points of units are these units.
abbrev pub CodePointsAreOfUnits : Type 0
CodePointsAreOfUnits = (us : List ℕ) → All (IsCodeUnit Utf16) us → encode Utf16 (code_points Utf16 us) ≡ us

-- Bytes that are WTF-8 are the text of the units of their items.
abbrev pub TextIsOfItems : Type 0
TextIsOfItems = (bs : List ℕ) → IsWtf8 bs → wtf8 (encode Utf16 (characters (wtf8_items false bs))) ≡ bs

-- Bytes are WTF-8 exactly if no fault is among their items.
abbrev pub TextHasNoFault : Type 0
TextHasNoFault = (bs : List ℕ) → IsWtf8 bs ↔ ((u : ℕ) → ¬ (Contains (wtf8_items false bs) (Fault u)))

-- The bytes before the first fault are WTF-8, and all bytes are not.
abbrev pub FirstFaultIsAfterText : Type 0
FirstFaultIsAfterText = (bs : List ℕ) (index len : ℕ) → IsFirstWtf8Fault bs index len → IsWtf8 (take index bs) × ¬ (IsWtf8 bs)

-- No prefix that is WTF-8 goes beyond the first fault.
abbrev pub LongestPrefixEndsAtFault : Type 0
LongestPrefixEndsAtFault = (bs : List ℕ) (index len n : ℕ) → IsFirstWtf8Fault bs index len → n ≤ length bs → IsWtf8 (take n bs) → n ≤ index

-- The first fault is at one index.
abbrev pub FirstFaultIsAtOneIndex : Type 0
FirstFaultIsAtOneIndex = (bs : List ℕ) (i n j m : ℕ) → IsFirstWtf8Fault bs i n → IsFirstWtf8Fault bs j m → i ≡ j

-- The text of concatenated units is the concatenated texts, if no pair is split between them.
abbrev pub TextsJoin : Type 0
TextsJoin = (us vs : List ℕ) → IsCut Utf16 us vs → wtf8 (us ++ vs) ≡ wtf8 us ++ wtf8 vs

-- The halves of a pair that is split between units have the four bytes of its character, once the units are joined.
abbrev pub HalvesJoin : Type 0
HalvesJoin =
    (us vs : List ℕ) (h l : ℕ) → IsHighSurrogate Utf16 h → IsLowSurrogate Utf16 l → wtf8 ((us ++ h ∷ []) ++ l ∷ vs) ≡ wtf8 us ++ (utf8_bytes (0x1_0000 + ((h - 0xD800) * 0x400 + (l - 0xDC00))) ++ wtf8 vs)
