-- A UTF-16 string with an offset index, and what an edit leaves of the index.
use Rattle.std.specs.Prelude.{ℕ, ◌+◌, ◌-◌, ◌/◌, ◌≤◌, List, drop, length, min, refl}
use Rattle.std.specs.Coded.{Coded, code_by, coded×, coded_ℕ}
use Rattle.wide_forms.specs.EncodingForm.{Utf16, encode}
use Rattle.wide_forms.specs.Items.{chars}
use Rattle.wide_ustring.specs.Units.{Units, units_code}
use Rattle.wide_offset_index.specs.Marks.{index_entry}
use Rattle.wide_edit.specs.Step.{step}
use Rattle.wide_edit.specs.declared.edits.Edit.{Edit}
use Rattle.wide_edit.specs.declared.edits.Edit.TheVariants.{Push, PushStr, Pop, Truncate, Insert, InsertStr, Remove, Retain, Drain, Replace, SplitOff, Clear}
use Rattle.wide_editable.specs.Edited.{CanHold}

-- The index of the first character that an edit can change, in a text of `count` characters. The characters before it
-- are unchanged.
abbrev pub first_changed : ℕ → Edit → ℕ
first_changed count (Push c) = count
first_changed count (PushStr t) = count
first_changed count Pop = count - 1
first_changed count (Truncate m) = min m count
first_changed count (Insert i c) = min i count
first_changed count (InsertStr i t) = min i count
first_changed count (Remove i) = min i count
first_changed count (Retain keep) = 0
first_changed count (Drain a b) = min a count
first_changed count (Replace a b t) = min a count
first_changed count (SplitOff i) = min i count
first_changed count Clear = 0

-- How many index entries of the characters `cs` are not past the first character that the edit can change.
abbrev pub entries_unchanged : List ℕ → Edit → ℕ
entries_unchanged cs edit = first_changed (length cs) edit / 64

-- The number of units after the last entry that the edit leaves unchanged, in the old and in the new text together.
abbrev pub units_after : List ℕ → List ℕ → Edit → ℕ
units_after old new edit =
    (length (encode Utf16 old) - index_entry old (entries_unchanged old edit)) + (length (encode Utf16 new) - index_entry new (entries_unchanged old edit))

-- The number of units that are read to count the characters of a reply: those of the characters that a `SplitOff`
-- removes.
abbrev pub units_split_off : List ℕ → Edit → ℕ
units_split_off cs (Push c) = 0
units_split_off cs (PushStr t) = 0
units_split_off cs Pop = 0
units_split_off cs (Truncate m) = 0
units_split_off cs (Insert i c) = 0
units_split_off cs (InsertStr i t) = 0
units_split_off cs (Remove i) = 0
units_split_off cs (Retain keep) = 0
units_split_off cs (Drain a b) = 0
units_split_off cs (Replace a b t) = 0
units_split_off cs (SplitOff i) = length (encode Utf16 (drop i cs))
units_split_off cs Clear = 0

-- What contracts say about a string with an offset index: the string, and how many entries fit without allocating.
pub record Marked : Type 0 where
  pub string : Units ℕ
  pub index_capacity : ℕ

-- A `Marked` coded as a pair: its string, and how many index entries fit.
abbrev pub marked_code : Coded Marked
marked_code =
    code_by (Units ℕ × ℕ) (coded× (units_code coded_ℕ) coded_ℕ) (λ m. (m.string, m.index_capacity))
    (λ p. record { string = p.0; index_capacity = p.1 }) (λ _. refl)

-- The units of a string with an offset index.
abbrev pub marked_units : Marked → List ℕ
marked_units m = m.string.units

-- How many units fit into a string with an offset index without allocating.
abbrev pub marked_capacity : Marked → ℕ
marked_capacity m = m.string.capacity

-- The characters of a string with an offset index.
abbrev pub marked_text : Marked → List ℕ
marked_text m = chars Utf16 m.string.units

-- The units and the index entries that the string has after the edit fit without allocating.
pub record IsMarkedReady (m : Marked) (edit : Edit) : Type 0 where
  pub units : CanHold Utf16 m.string (step (marked_text m) edit).0
  pub marks : length (step (marked_text m) edit).0 / 64 ≤ m.index_capacity
