-- What bytes mean, and what bytes code points have, in each encoding scheme: the Standard's D92 and D95 to D100.
use Rattle.std.specs.Prelude.{◌≡◌, ℕ, ◌+◌, ◌*◌, ◌%◌, ◌<◌, ◌≤◌, Bool, true, false, List, [], ◌∷◌, ◌++◌, drop, length, map, slice_index, if◌then◌else◌}
use Rattle.wide_forms.specs.EncodingForm.{Utf16 as Utf16Form, Utf32 as Utf32Form, encode, IsHighSurrogate}
use Rattle.wide_forms.specs.Items.{items}
use Rattle.wide_forms.specs.Searches.{is_surrogate}
use Rattle.wide_forms.specs.Segmentation.{Item, Char, Fault}
use Rattle.wide_forms.specs.UnitBytes.{big_bytes_of, little_bytes_of}
use Rattle.wide_forms.specs.Utf8.{utf8, utf8_bytes}
use Rattle.wide_unit.specs.CodePoints.{code_points}
use Rattle.wide_bytes.specs.Bytes.{bytes_in, unit_in, units_in}
use Rattle.wide_bytes.specs.declared.order.BoM.{BoM}
use Rattle.wide_bytes.specs.declared.order.BoM.TheVariants.{Big, Little}
use Rattle.wide_conversions.specs.ChunkEnds.{BeginsCharacter}
use Rattle.wide_conversions.specs.Utf8Items.{utf8_items}
use Rattle.wide_schemes.specs.Wtf8Items.{IsCodePoint, wtf8_items}
use Rattle.wide_schemes.specs.declared.layout.Layout.{Layout}
use Rattle.wide_schemes.specs.declared.layout.Layout.TheVariants.{Utf8, Wtf8, Utf16, Utf32}
use Rattle.wide_schemes.specs.declared.progress.DecodeStop.{DecodeStop}
use Rattle.wide_schemes.specs.declared.progress.DecodeStop.TheVariants.{AtEnd, NoSpace, Incomplete, Fault as AtFault}

-- The code unit of four bytes (the Standard's D99 and D100).
abbrev pub unit32_in : BoM → ℕ → ℕ → ℕ → ℕ → ℕ
unit32_in Big a b c d = 0x100_0000 * a + 0x1_0000 * b + 0x100 * c + d
unit32_in Little a b c d = a + 0x100 * b + 0x1_0000 * c + 0x100_0000 * d

-- The code unit at an index in units.
abbrev pub unit32_at : BoM → List ℕ → ℕ → ℕ
unit32_at order bytes k = unit32_in order (slice_index bytes (4 * k)) (slice_index bytes (4 * k + 1)) (slice_index bytes (4 * k + 2)) (slice_index bytes (4 * k + 3))

-- The code units of the whole fours of bytes.
unfoldable pub units32_in : BoM → List ℕ → List ℕ
units32_in order [] = []
units32_in order (a ∷ []) = []
units32_in order (a ∷ b ∷ []) = []
units32_in order (a ∷ b ∷ c ∷ []) = []
units32_in order (a ∷ b ∷ c ∷ d ∷ bytes) = unit32_in order a b c d ∷ units32_in order bytes

-- The bytes of code units of 32 bits in a byte order.
abbrev pub bytes32_in : BoM → List ℕ → List ℕ
bytes32_in Big units = big_bytes_of Utf32Form units
bytes32_in Little units = little_bytes_of Utf32Form units

-- The item outside of WTF-8: a surrogate is a fault.
abbrev pub scalar_item : Item → Item
scalar_item (Char c) = if is_surrogate c then Fault c else Char c
scalar_item (Fault u) = Fault u

-- The characters and faults of bytes. If `keeps` is true, a surrogate that belongs to no pair is a character of WTF-8 and
-- of UTF-16, so that every unit survives. `after_high` says whether the first half of a pair precedes the bytes, which
-- matters for WTF-8 alone. Bytes of an incomplete unit at the end are no item.
abbrev pub items_in : Layout → Bool → Bool → List ℕ → List Item
items_in Utf8 keeps after_high bytes = utf8_items bytes
items_in Wtf8 true after_high bytes = wtf8_items after_high bytes
items_in Wtf8 false after_high bytes = map scalar_item (wtf8_items false bytes)
items_in (Utf16 order) true after_high bytes = map Char (code_points Utf16Form (units_in order bytes))
items_in (Utf16 order) false after_high bytes = items Utf16Form (units_in order bytes)
items_in (Utf32 order) keeps after_high bytes = items Utf32Form (units32_in order bytes)

-- The bytes of code points. Those of surrogates are WTF-8, or UTF-16 that is ill-formed.
abbrev pub encoded : Layout → List ℕ → List ℕ
encoded Utf8 cs = utf8 cs
encoded Wtf8 cs = utf8 cs
encoded (Utf16 order) cs = bytes_in order (encode Utf16Form cs)
encoded (Utf32 order) cs = bytes32_in order (encode Utf32Form cs)

-- The layouts that have bytes for scalar values alone. The others have some for surrogates that belong to no pair, too.
abbrev pub needs_text : Layout → Bool
needs_text Utf8 = false
needs_text Wtf8 = false
needs_text (Utf16 order) = false
needs_text (Utf32 order) = true

-- The number of bytes in a code unit of a layout.
abbrev pub unit_len : Layout → ℕ
unit_len Utf8 = 1
unit_len Wtf8 = 1
unit_len (Utf16 order) = 2
unit_len (Utf32 order) = 4

-- Any bytes may follow, or none if the bytes are the last ones.
abbrev pub MayFollow : Bool → List ℕ → Type 0
MayFollow last more = last ≡ true → more ≡ []

-- The first `read` bytes are code points, those of the units `us`, whatever follows the bytes.
abbrev pub Decodes : Layout → Bool → Bool → List ℕ → Bool → ℕ → List ℕ → Bool → Type 0
Decodes layout keeps after_high bytes last read us after_high' =
    (more : List ℕ) → MayFollow last more → items_in layout keeps after_high (bytes ++ more) ≡ map Char (code_points Utf16Form us) ++ items_in layout keeps after_high' (drop read bytes ++ more)

-- The bytes are the beginning of a code point's bytes.
pub record BeginsPoint (bs : List ℕ) : Type 0 where
  pub code : ℕ
  pub bound : IsCodePoint code
  pub more : List ℕ
  pub some : 0 < length more
  pub whole : bs ++ more ≡ utf8_bytes code

-- The bytes are the beginning of a unit or of a character, or in WTF-8 of a code point.
abbrev pub IsBeginning : Layout → List ℕ → Type 0
IsBeginning Utf8 rest = BeginsCharacter rest
IsBeginning Wtf8 rest = BeginsPoint rest
IsBeginning (Utf16 order) [] = ⊥
IsBeginning (Utf16 order) (a ∷ []) = Unit {0}
IsBeginning (Utf16 order) (a ∷ b ∷ []) = IsHighSurrogate Utf16Form (unit_in order a b)
IsBeginning (Utf16 order) (a ∷ b ∷ c ∷ []) = IsHighSurrogate Utf16Form (unit_in order a b)
IsBeginning (Utf16 order) (a ∷ b ∷ c ∷ d ∷ rest) = ⊥
IsBeginning (Utf32 order) rest = length rest < 4

-- The bytes begin with a fault of `len` bytes, whatever follows them.
pub record BeginsWithFault (layout : Layout) (keeps after_high : Bool) (bytes : List ℕ) (last : Bool) (unit len : ℕ) : Type 0 where
  pub some : 0 < len
  pub within : len ≤ length bytes
  pub whole : len % unit_len layout ≡ 0
  pub first : (more : List ℕ) → MayFollow last more → items_in layout keeps after_high (bytes ++ more) ≡ Fault unit ∷ items_in layout keeps after_high (drop len bytes ++ more)

-- The bytes are not enough for an item: at most three, the beginning of one. At the end they are no item, but part of a
-- unit.
pub record IsIncomplete (layout : Layout) (keeps after_high : Bool) (bytes : List ℕ) (last : Bool) : Type 0 where
  pub some : 0 < length bytes
  pub few : length bytes < 4
  pub beginning : IsBeginning layout bytes
  pub no_item : last ≡ true → items_in layout keeps after_high bytes ≡ []
  pub part : last ≡ true → length bytes < unit_len layout

-- Decoding stopped before these bytes, where there is space for `room` more units.
abbrev pub StopsBefore : Layout → Bool → Bool → List ℕ → Bool → ℕ → DecodeStop → Type 0
StopsBefore layout keeps after_high rest last room AtEnd = rest ≡ []
StopsBefore layout keeps after_high rest last room NoSpace = (0 < length rest) × (room < 2)
StopsBefore layout keeps after_high rest last room Incomplete = IsIncomplete layout keeps after_high rest last
StopsBefore layout keeps after_high rest last room (AtFault unit len) = BeginsWithFault layout keeps after_high rest last unit len
