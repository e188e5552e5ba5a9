-- Ranges of indices in a list.
use Rattle.std.specs.Prelude.{ℕ, ◌≤◌, List, length, slice_range}
use Rattle.std.specs.List.{splice}
use Rattle.std.specs.Range.Bound.{start_index, end_index}
use Rattle.std.specs.declared.ops.Bound.{Bound}

-- The range starts at or before its end, and ends within a list of this length.
pub record IsWithin (from to len : ℕ) : Type 0 where
  pub forward : from ≤ to
  pub within : to ≤ len

-- What the bounds of a range mean in a list.
module _ {X : Type 0} (xs : List X) (start end : Bound ℕ) where
  -- The bounds are in order and within the list.
  abbrev pub IsInRange : Type 0
  IsInRange = IsWithin (start_index start) (end_index end (length xs)) (length xs)

  -- The slice of the list that the range names.
  abbrev pub part_of : List X
  part_of = slice_range xs (start_index start) (end_index end (length xs))

  -- The list with another list in place of the slice that the range names.
  abbrev pub part_replaced : List X → List X
  part_replaced put = splice xs (start_index start) (end_index end (length xs)) put
