-- The indices of characters that an edit states.
use Rattle.std.specs.Prelude.{ℕ}
use Rattle.wide_edit.specs.declared.edits.Edit.{Edit}
use Rattle.wide_edit.specs.declared.edits.Edit.TheVariants.{Push, PushStr, Pop, Truncate, Insert, InsertStr, Remove, Retain, Drain, Replace, SplitOff, Clear}

-- The first index of an edit, or 0 if it has none.
abbrev pub first_index : Edit → ℕ
first_index (Push c) = 0
first_index (PushStr t) = 0
first_index Pop = 0
first_index (Truncate m) = m
first_index (Insert i c) = i
first_index (InsertStr i t) = i
first_index (Remove i) = i
first_index (Retain keep) = 0
first_index (Drain a b) = a
first_index (Replace a b t) = a
first_index (SplitOff i) = i
first_index Clear = 0

-- The second index of an edit, or 0 if it has only one or none.
abbrev pub second_index : Edit → ℕ
second_index (Push c) = 0
second_index (PushStr t) = 0
second_index Pop = 0
second_index (Truncate m) = 0
second_index (Insert i c) = 0
second_index (InsertStr i t) = 0
second_index (Remove i) = 0
second_index (Retain keep) = 0
second_index (Drain a b) = b
second_index (Replace a b t) = b
second_index (SplitOff i) = 0
second_index Clear = 0
