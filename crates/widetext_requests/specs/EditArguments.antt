-- The edits that arguments name.
use Rattle.std.specs.Prelude.{◌≡◌, ℕ, ◌<◌, ◌^◌, List, [], ◌∷◌, ◌++◌, codes, encode_utf8, encode_utf8_all}
use Rattle.std.specs.Char.{IsScalar}
use Rattle.std.specs.Str.Parse.{IsNumeral, digits_value}
use Rattle.wide_edit.specs.declared.edits.Edit as edit
use Rattle.wide_edit.specs.declared.edits.Edit.TheVariants.{Push, PushStr, Pop, Truncate, Insert, InsertStr, Remove, Retain, Drain, Replace, SplitOff, Clear}
use Rattle.widetext_requests.specs.declared.edit_arguments.EditArgument.{EditArgument}
use Rattle.widetext_requests.specs.declared.edit_arguments.EditArgument.TheVariants as word

-- The edit of a parsed argument: `Retain` has the list of the characters to retain.
abbrev pub IsEdit : EditArgument → edit.Edit → Type 0
IsEdit (word.Whole e) found = found ≡ e
IsEdit (word.Retain keep) (Retain kept) = kept.now ≡ keep.items
IsEdit (word.Retain keep) found = ⊥

-- Each element of a list is related to the one with the same index in another list.
abbrev pub AreEach : {X Y : Type 0} → (X → Y → Type 0) → List X → List Y → Type 0
AreEach R [] [] = Unit {0}
AreEach R [] (y ∷ ys) = ⊥
AreEach R (x ∷ xs) [] = ⊥
AreEach R (x ∷ xs) (y ∷ ys) = R x y × AreEach R xs ys

-- The edits of parsed arguments, one of each.
abbrev pub AreEdits : List EditArgument → List edit.Edit → Type 0
AreEdits words edits = AreEach IsEdit words edits

-- A decimal number.
abbrev pub IsNumber : List ℕ → ℕ → Type 0
IsNumber digits n = IsNumeral 10 digits × (digits_value 10 digits ≡ n)

-- A decimal number, a comma and more.
abbrev pub IsNumberThen : List ℕ → ℕ → List ℕ → Type 0
IsNumberThen values n rest = (digits : List ℕ) × (values ≡ digits ++ 44 ∷ rest) × IsNumber digits n

-- The name of an edit.
abbrev pub edit_name : edit.Edit → List ℕ
edit_name (Push c) = codes "push"
edit_name (PushStr t) = codes "pushstr"
edit_name Pop = codes "pop"
edit_name (Truncate m) = codes "truncate"
edit_name (Insert i c) = codes "insert"
edit_name (InsertStr i t) = codes "insertstr"
edit_name (Remove i) = codes "remove"
edit_name (Retain keep) = codes "retain"
edit_name (Drain a b) = codes "drain"
edit_name (Replace a b t) = codes "replace"
edit_name (SplitOff i) = codes "splitoff"
edit_name Clear = codes "clear"

-- What is after the name and the equals sign of an edit that has values.
abbrev pub AreValues : List ℕ → edit.Edit → Type 0
AreValues values (Push c) = values ≡ encode_utf8 c
AreValues values (PushStr t) = values ≡ t.now
AreValues values Pop = ⊥
AreValues values (Truncate m) = IsNumber values m
AreValues values (Insert i c) = IsNumberThen values i (encode_utf8 c)
AreValues values (InsertStr i t) = IsNumberThen values i t.now
AreValues values (Remove i) = IsNumber values i
AreValues values (Retain keep) = values ≡ encode_utf8_all keep.now
AreValues values (Drain a b) = (rest : List ℕ) × IsNumberThen values a rest × IsNumber rest b
AreValues values (Replace a b t) = (rest : List ℕ) × IsNumberThen values a rest × IsNumberThen rest b t.now
AreValues values (SplitOff i) = IsNumber values i
AreValues values Clear = ⊥

-- The edit has this name and these values.
abbrev pub IsNamed : List ℕ → List ℕ → edit.Edit → Type 0
IsNamed name values found = (name ≡ edit_name found) × AreValues values found

-- The edit has this name and these values, and its first number is followed by more values.
abbrev pub IsNamedAt : List ℕ → List ℕ → edit.Edit → Type 0
IsNamedAt name values (Push c) = ⊥
IsNamedAt name values (PushStr t) = ⊥
IsNamedAt name values Pop = ⊥
IsNamedAt name values (Truncate m) = ⊥
IsNamedAt name values (Insert i c) = IsNamed name values (Insert i c)
IsNamedAt name values (InsertStr i t) = IsNamed name values (InsertStr i t)
IsNamedAt name values (Remove i) = ⊥
IsNamedAt name values (Retain keep) = ⊥
IsNamedAt name values (Drain a b) = IsNamed name values (Drain a b)
IsNamedAt name values (Replace a b t) = IsNamed name values (Replace a b t)
IsNamedAt name values (SplitOff i) = ⊥
IsNamedAt name values Clear = ⊥

-- An argument names an edit: `pop` and `clear` are only a name, others are a name, an equals sign and values.
abbrev pub NamesEdit : List ℕ → edit.Edit → Type 0
NamesEdit bytes Pop = bytes ≡ codes "pop"
NamesEdit bytes Clear = bytes ≡ codes "clear"
NamesEdit bytes found = (name : List ℕ) × (values : List ℕ) × (bytes ≡ name ++ 61 ∷ values) × IsNamed name values found

-- An argument names what was parsed from it.
abbrev pub NamesArgument : List ℕ → EditArgument → Type 0
NamesArgument bytes (word.Whole found) = NamesEdit bytes found
NamesArgument bytes (word.Retain keep) = bytes ≡ codes "retain=" ++ encode_utf8_all keep.items

-- The values of an edit are of their types: numbers of 64 bits, and Unicode scalar values.
abbrev pub HasTypes : edit.Edit → Type 0
HasTypes (Push c) = IsScalar c
HasTypes (PushStr t) = Unit {0}
HasTypes Pop = Unit {0}
HasTypes (Truncate m) = m < 2 ^ 64
HasTypes (Insert i c) = (i < 2 ^ 64) × IsScalar c
HasTypes (InsertStr i t) = i < 2 ^ 64
HasTypes (Remove i) = i < 2 ^ 64
HasTypes (Retain keep) = Unit {0}
HasTypes (Drain a b) = (a < 2 ^ 64) × (b < 2 ^ 64)
HasTypes (Replace a b t) = (a < 2 ^ 64) × (b < 2 ^ 64)
HasTypes (SplitOff i) = i < 2 ^ 64
HasTypes Clear = Unit {0}

-- The values of a parsed argument are of their types.
abbrev pub ArgumentHasTypes : EditArgument → Type 0
ArgumentHasTypes (word.Whole found) = HasTypes found
ArgumentHasTypes (word.Retain keep) = Unit {0}
