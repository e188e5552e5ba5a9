-- What the iterators over the units of a view will yield.
use Rattle.std.specs.Prelude.{ℕ, List, map, length, Option, Some, None}
use Rattle.wide_forms.specs.EncodingForm.{EncodingForm, code_units}
use Rattle.wide_forms.specs.Segmentation.{Item}
use Rattle.wide_forms.specs.Items.{items}
use Rattle.wide_forms.specs.Lossy.{lossy}
use Rattle.wide_ustr.specs.Indexed.{indexed, indexed_lossy}
use Rattle.wide_ustr.specs.declared.offsets.Offsets.{Offsets}
use Rattle.wide_ustr.specs.declared.iter.Chars.{Chars}
use Rattle.wide_ustr.specs.declared.iter.CharsLossy.{CharsLossy}
use Rattle.wide_ustr.specs.declared.iter.CharIndices.{CharIndices}
use Rattle.wide_ustr.specs.declared.iter.CharIndicesLossy.{CharIndicesLossy}

module _ {C : Type 0} where
  -- The units that a `Chars` has not read yet.
  abbrev pub chars_rest : Chars C → List C
  chars_rest s = s.rest.now

  -- The units that a `CharsLossy` has not read yet.
  abbrev pub chars_lossy_rest : CharsLossy C → List C
  chars_lossy_rest s = s.rest.now

  -- The units that an `Offsets` has not read yet.
  abbrev pub offsets_rest : Offsets C → List C
  offsets_rest s = s.rest.now

  -- The units that a `CharIndices` has not read yet.
  abbrev pub indices_rest : CharIndices C → List C
  indices_rest s = offsets_rest s.offsets

  -- The units that a `CharIndicesLossy` has not read yet.
  abbrev pub indices_lossy_rest : CharIndicesLossy C → List C
  indices_lossy_rest s = offsets_rest s.offsets

  -- The length in units of what an `Offsets` has read from the front.
  abbrev pub position_of : Offsets C → ℕ
  position_of s = s.offset

  -- The length in units of what a `CharIndices` has read from the front.
  abbrev pub offset_of : CharIndices C → ℕ
  offset_of s = position_of s.offsets

  -- The length in units of what a `CharIndicesLossy` has read from the front.
  abbrev pub lossy_offset_of : CharIndicesLossy C → ℕ
  lossy_offset_of s = position_of s.offsets

  module _ (form : EncodingForm) (number : C → ℕ) where
    -- The characters and faults that a `Chars` will yield.
    abbrev pub items_left : Chars C → List Item
    items_left s = items form (map number (chars_rest s))

    -- The characters that a `CharsLossy` will yield, with U+FFFD for each fault.
    abbrev pub lossy_left : CharsLossy C → List ℕ
    lossy_left s = lossy (items form (map number (chars_lossy_rest s)))

    -- The items that an `Offsets` will yield, each with its offset in units.
    abbrev pub offsets_left : Offsets C → List (ℕ × Item)
    offsets_left s = indexed form (position_of s) (items form (map number (offsets_rest s)))

    -- The characters and faults that a `CharIndices` will yield, each with its offset in units.
    abbrev pub indices_left : CharIndices C → List (ℕ × Item)
    indices_left s = offsets_left s.offsets

    -- The characters that a `CharIndicesLossy` will yield, with U+FFFD for each fault, each with its offset in units.
    abbrev pub indices_lossy_left : CharIndicesLossy C → List (ℕ × ℕ)
    indices_lossy_left s = indexed_lossy form (lossy_offset_of s) (items form (map number (indices_lossy_rest s)))

-- The length in units of a character that was yielded.
abbrev pub given_length : EncodingForm → Option (ℕ × ℕ) → ℕ
given_length form None = 0
given_length form (Some r) = length (code_units form r.1)
