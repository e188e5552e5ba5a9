-- Items with the offset, in units, at which each begins.
use Rattle.std.specs.Prelude.{ℕ, ◌+◌, List, [], ◌∷◌, length, map, Option, Some, None, Result}
use Rattle.wide_forms.specs.EncodingForm.{EncodingForm}
use Rattle.wide_forms.specs.Segmentation.{Item, item_units}
use Rattle.wide_forms.specs.Lossy.{lossy_char}
use Rattle.wide_unit.specs.Unit.{item_of}

-- Each item with its offset, in units: the first at `offset`, and each next one after the units of the one before.
abbrev pub indexed : EncodingForm → ℕ → List Item → List (ℕ × Item)
indexed form offset [] = []
indexed form offset (i ∷ is) = (offset, i) ∷ indexed form (offset + length (item_units form i)) is

module _ {C : Type 0} (number : C → ℕ) where
  -- The offset and the item that an index iterator yielded.
  abbrev pub indexed_item : ℕ × Result ℕ C → ℕ × Item
  indexed_item r = (r.0, item_of number r.1)

  -- The length in units of the item that an index iterator yielded, or 0 if it yielded none.
  abbrev pub taken_length : EncodingForm → Option (ℕ × Result ℕ C) → ℕ
  taken_length form None = 0
  taken_length form (Some r) = length (item_units form (item_of number r.1))

-- An item with its offset, with U+FFFD for a fault.
abbrev pub lossy_at : ℕ × Item → ℕ × ℕ
lossy_at r = (r.0, lossy_char r.1)

-- The items with their offsets, with U+FFFD for each fault. The first is at `offset`.
abbrev pub indexed_lossy : EncodingForm → ℕ → List Item → List (ℕ × ℕ)
indexed_lossy form offset is = map lossy_at (indexed form offset is)
