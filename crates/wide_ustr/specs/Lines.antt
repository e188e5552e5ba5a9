-- What an iterator over lines will yield.
use Rattle.std.specs.Prelude.{List}
use Rattle.wide_forms.specs.Segmentation.{Item}
use Rattle.wide_forms.specs.Lines.{lines_of}
use Rattle.wide_ustr.specs.declared.lines.Lines.{Lines}

-- The view of the units that were not read yet.
abbrev pub lines_rest : {V : Type 0} → Lines V → V
lines_rest s = s.rest

-- The items of each line that will be yielded, given the items of a view.
abbrev pub lines_left : {V : Type 0} → (V → List Item) → Lines V → List (List Item)
lines_left seen s = lines_of (seen (lines_rest s))
