-- Lines of a text that may have faults.
use Rattle.std.specs.Prelude.{◌≡◌, ℕ, ◌+◌, ◌-◌, length, ◌==◌, Bool, false, if◌then◌else◌, List, [], ◌∷◌}
use Rattle.std.specs.List.{slice_split}
use Rattle.wide_forms.specs.EncodingForm.{EncodingForm}
use Rattle.wide_forms.specs.Segmentation.{Item, Char, Fault, units_of}
use Rattle.wide_forms.specs.Items.{items, IsWellFormed}

-- The character that ends a line.
abbrev pub line_feed : ℕ
line_feed = 0xA

-- The character that belongs to a line end if it directly precedes the line feed.
abbrev pub carriage_return : ℕ
carriage_return = 0xD

-- Whether an item is a line feed.
abbrev pub is_line_feed : Item → Bool
is_line_feed (Char c) = c == line_feed
is_line_feed (Fault u) = false

-- The items without one carriage return at the end, if there is one.
abbrev pub without_return : List Item → List Item
without_return [] = []
without_return (Char c ∷ []) = if c == carriage_return then [] else Char c ∷ []
without_return (Fault u ∷ []) = Fault u ∷ []
without_return (i ∷ j ∷ is) = i ∷ without_return (j ∷ is)

-- The lines of the substrings between line feeds. Each one but the last ended in a line feed, and loses a carriage
-- return before it. The last one is a line only if it is not empty.
abbrev pub lines_of_substrings : List (List Item) → List (List Item)
lines_of_substrings [] = []
lines_of_substrings ([] ∷ []) = []
lines_of_substrings ((i ∷ is) ∷ []) = (i ∷ is) ∷ []
lines_of_substrings (p ∷ q ∷ ps) = without_return p ∷ lines_of_substrings (q ∷ ps)

-- The lines of the items, which are split at each line feed. No line contains its line feed.
abbrev pub lines_of : List Item → List (List Item)
lines_of is = lines_of_substrings (slice_split is_line_feed is)

-- The lines of the substrings, each with the offset, in units, at which it begins. The first begins at `offset`, and
-- each next one after the units of the one before and its line feed.
abbrev pub placed_substrings : EncodingForm → ℕ → List (List Item) → List (ℕ × List Item)
placed_substrings form offset [] = []
placed_substrings form offset ([] ∷ []) = []
placed_substrings form offset ((i ∷ is) ∷ []) = (offset, i ∷ is) ∷ []
placed_substrings form offset (p ∷ q ∷ ps) = (offset, without_return p) ∷ placed_substrings form (offset + (length (units_of form p) + 1)) (q ∷ ps)

-- The lines of the items, each with the offset, in units, at which it begins.
abbrev pub placed_lines : EncodingForm → ℕ → List Item → List (ℕ × List Item)
placed_lines form offset is = placed_substrings form offset (slice_split is_line_feed is)

-- The first line of the items, and the items of the lines after it. `taken` is the number of units that were read.
abbrev pub TakesLine : EncodingForm → List Item → List Item → List Item → ℕ → Type 0
TakesLine form is line rest taken = (offset : ℕ) → placed_lines form offset is ≡ (offset, line) ∷ placed_lines form (offset + taken) rest

-- The first line of the units, and the units after it. Both are well formed if all units are.
pub record IsFirstLine (form : EncodingForm) (units line rest : List ℕ) : Type 0 where
  pub lines : lines_of (items form units) ≡ items form line ∷ lines_of (items form rest)
  pub well_formed : IsWellFormed form units → IsWellFormed form line × IsWellFormed form rest
  -- The lines with their offsets.
  pub placed : TakesLine form (items form units) (items form line) (items form rest) (length units - length rest)
