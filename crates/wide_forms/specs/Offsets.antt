-- Offsets in well-formed units, by the characters before them.
use Rattle.std.specs.Prelude.{◌≡◌, ◌<◌, ◌≤◌, ℕ, List, length, map, take, drop, slice_index}
use Rattle.std.specs.List.{splice}
use Rattle.std.specs.Range.Bound.{start_index, end_index}
use Rattle.std.specs.declared.ops.Bound.{Bound}
use Rattle.wide_forms.specs.EncodingForm.{EncodingForm, encode, IsLowSurrogate}
use Rattle.wide_forms.specs.Items.{chars, IsBoundary}
use Rattle.wide_forms.specs.Range.{IsWithin}

-- The offset, in units, at which character number `index` begins, or the end if `index` is the number of characters.
pub record IsOffsetOf (form : EncodingForm) (units : List ℕ) (index offset : ℕ) : Type 0 where
  pub boundary : IsBoundary form units offset
  -- The characters before the offset are the first `index` ones, and those from it on are the others.
  pub prefix : chars form (take offset units) ≡ take index (chars form units)
  pub rest : chars form (drop offset units) ≡ drop index (chars form units)
  -- The units before the offset are the encoding of the first `index` characters.
  pub encoded : take offset units ≡ encode form (take index (chars form units))

-- The number of characters before the offset.
abbrev pub chars_before : EncodingForm → List ℕ → ℕ → ℕ
chars_before form units offset = length (chars form (take offset units))

-- The range starts at or before its end, lies within the units, and both its ends are boundaries.
pub record IsTextRange (form : EncodingForm) (units : List ℕ) (from to : ℕ) : Type 0 where
  pub within : IsWithin from to (length units)
  pub start : IsBoundary form units from
  pub end : IsBoundary form units to

-- The offset is the beginning or the end, or the unit at it is no low surrogate. It depends on that unit alone. In
-- well-formed units it is `IsBoundary`. At both ends, and at any offset in UTF-32, it follows from the offset and the
-- length.
abbrev pub IsCharBoundary : EncodingForm → List ℕ → ℕ → Type 0
IsCharBoundary form units offset = (offset ≤ length units) × (0 < offset → offset < length units → ¬ (IsLowSurrogate form (slice_index units offset)))

-- The range starts at or before its end, lies within the units, and both its ends are character boundaries.
pub record IsCharRange (form : EncodingForm) (units : List ℕ) (from to : ℕ) : Type 0 where
  pub within : IsWithin from to (length units)
  pub start : IsCharBoundary form units from
  pub end : IsCharBoundary form units to

-- The text of units of any type `C`, given the number of each unit.
module _ {C : Type 0} (form : EncodingForm) (number : C → ℕ) where
  -- The characters of units.
  abbrev pub text_of : List C → List ℕ
  text_of us = chars form (map number us)

  -- The number of characters before an offset.
  abbrev pub text_before : List C → ℕ → ℕ
  text_before us offset = chars_before form (map number us) offset

  -- The characters, with others in place of those between two offsets.
  abbrev pub text_spliced : List C → ℕ → ℕ → List ℕ → List ℕ
  text_spliced us from to put = splice (text_of us) (text_before us from) (text_before us to) put

  -- The bounds of a range are in order, within the units, and at offsets for which `IsBoundary` holds.
  abbrev pub IsTextPart : List C → Bound ℕ → Bound ℕ → Type 0
  IsTextPart us start end = IsTextRange form (map number us) (start_index start) (end_index end (length us))

  -- The bounds of a range are in order, within the units, and at offsets for which `IsCharBoundary` holds.
  abbrev pub IsCharPart : List C → Bound ℕ → Bound ℕ → Type 0
  IsCharPart us start end = IsCharRange form (map number us) (start_index start) (end_index end (length us))

  -- The characters, with others in place of those of a range.
  abbrev pub text_replaced : List C → Bound ℕ → Bound ℕ → List ℕ → List ℕ
  text_replaced us start end put = text_spliced us (start_index start) (end_index end (length us)) put
