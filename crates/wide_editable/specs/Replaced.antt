-- The range of characters that an edit replaces, and the units that are read to find it.
use Rattle.std.specs.Prelude.{◌≡◌, ℕ, ◌+◌, ◌-◌, ◌≤◌, List, length, take, drop}
use Rattle.wide_offset_index.specs.Marks.{offset}
use Rattle.wide_edit.specs.declared.edits.Edit.{Edit}
use Rattle.wide_edit.specs.declared.edits.Edit.TheVariants.{Push, PushStr, Pop, Truncate, Insert, InsertStr, Remove, Retain, Drain, Replace, SplitOff, Clear}

-- An edit replaces the characters from index `from` up to index `to`: the characters before them are unchanged, and
-- those after them are the last ones of the new characters.
pub record Replaces (old new : List ℕ) (from to : ℕ) : Type 0 where
  pub fits : length old + from ≤ length new + to
  pub prefix : take from new ≡ take from old
  pub rest : drop (length new + to - length old) new ≡ drop to old

-- The number of units of the character at an index, or 0 if there is none.
abbrev pub units_at : List ℕ → ℕ → ℕ
units_at cs index = offset cs (index + 1) - offset cs index

-- The number of units that are read to find the range that an edit replaces: those of the character that a `Remove`
-- removes.
abbrev pub units_removed : List ℕ → Edit → ℕ
units_removed cs (Push c) = 0
units_removed cs (PushStr t) = 0
units_removed cs Pop = 0
units_removed cs (Truncate m) = 0
units_removed cs (Insert i c) = 0
units_removed cs (InsertStr i t) = 0
units_removed cs (Remove i) = units_at cs i
units_removed cs (Retain keep) = 0
units_removed cs (Drain a b) = 0
units_removed cs (Replace a b t) = 0
units_removed cs (SplitOff i) = 0
units_removed cs Clear = 0
