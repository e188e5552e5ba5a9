-- What an iterator over lines with their offsets will yield.
use Rattle.std.specs.Prelude.{ℕ, ◌-◌, List}
use Rattle.wide_forms.specs.Segmentation.{Item}
use Rattle.wide_forms.specs.Lines.{placed_lines}
use Rattle.wide_ustr.specs.declared.lines.LineView.{Ghosts}
use Rattle.wide_ustr.specs.declared.line_indices.LineIndices.{LineIndices}

-- Each line that will be yielded, as its items, with its offset in the view that the iterator was made of. The offset
-- of the next line is the number of units that were read.
abbrev pub placed_left : {V : Type 0} {g : Ghosts V} → LineIndices V g → List (ℕ × List Item)
placed_left {g = g} s = placed_lines g.form (s.len - g.count s.rest) (g.items_seen s.rest)

-- An offset and a line, as its items.
abbrev pub placed_line : {V : Type 0} → (V → List Item) → ℕ × V → ℕ × List Item
placed_line seen r = (r.0, seen r.1)
