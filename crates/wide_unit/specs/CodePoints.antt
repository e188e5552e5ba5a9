-- The code points of units, well formed or not.
use Rattle.std.specs.Prelude.{ℕ, List, map}
use Rattle.wide_forms.specs.EncodingForm.{EncodingForm}
use Rattle.wide_forms.specs.Segmentation.{Item, Char, Fault}
use Rattle.wide_forms.specs.Items.{items}

-- The code point of an item: that of a character, or, for a unit that belongs to none, its number. A surrogate is a
-- code point too (the Standard's D10 and D71).
abbrev pub code_of : Item → ℕ
code_of (Char c) = c
code_of (Fault u) = u

-- The code points of the items of units.
abbrev pub code_points : EncodingForm → List ℕ → List ℕ
code_points form us = map code_of (items form us)
