-- What a part says.
use Rattle.std.specs.Prelude.{◌≡◌, ℕ, ◌-◌, Bool, true, false, not, ◌&&◌, ◌||◌, List, [], ◌∷◌, drop, length, nat_lt, ◌==◌, ⊤}
use Rattle.std.specs.List.{before_first}
use Rattle.wide_registry.specs.Escapes.{has_good_escapes}
use Rattle.wide_registry.specs.Headers.{IsHeader}
use Rattle.wide_registry.specs.Lines.{begins_value, is_line_end, without_blanks}
use Rattle.wide_registry.specs.declared.entry.Data.{Data}
use Rattle.wide_registry.specs.declared.entry.Data.TheVariants.{Bytes, Damaged, Deleted, Number, Text}
use Rattle.wide_registry.specs.declared.entry.Entry.{Entry}
use Rattle.wide_registry.specs.declared.entry.Entry.TheVariants.{Header, Key, Nothing, Value}

-- Whether data could be read.
abbrev pub is_data : Data → Bool
is_data Deleted = true
is_data (Text string) = true
is_data (Number number) = true
is_data (Bytes number digits) = true
is_data Damaged = false

-- Whether a part says something that could be read.
abbrev pub is_read : Entry → Bool
is_read (Header header) = true
is_read (Key key) = nat_lt 0 (length key.path.now)
is_read (Value value) = is_data value.data
is_read Nothing = false

-- Whether a line has nothing or a comment, without the blanks at its beginning.
abbrev pub is_comment : List ℕ → Bool
is_comment [] = true
is_comment (unit ∷ rest) = unit == 0x3b || unit == 0x23

-- The first line of a part, without the blanks at its beginning.
abbrev pub first_words : List ℕ → List ℕ
first_words part = without_blanks (before_first is_line_end part)

-- Whether a part is an empty line or a comment.
abbrev pub says_nothing : List ℕ → Bool
says_nothing part = is_comment (first_words part)

-- Bytes are the last units of their part.
abbrev pub EndsInData : List ℕ → Data → Type 0
EndsInData part Deleted = ⊤
EndsInData part (Text string) = ⊤
EndsInData part (Number number) = ⊤
EndsInData part (Bytes number digits) = digits.now ≡ drop (length part - length digits.now) part
EndsInData part Damaged = ⊤

-- Bytes are the last units of their part.
abbrev pub EndsInBytes : List ℕ → Entry → Type 0
EndsInBytes part (Header header) = ⊤
EndsInBytes part (Key key) = ⊤
EndsInBytes part (Value value) = EndsInData part value.data
EndsInBytes part Nothing = ⊤

-- Whether a line begins with a bracket, as keys do.
abbrev pub begins_key : List ℕ → Bool
begins_key [] = false
begins_key (unit ∷ rest) = unit == 0x5b

-- A part begins as what it says: with a header, a bracket, or the name of a value.
abbrev pub Begins : List ℕ → Entry → Type 0
Begins part (Header header) = IsHeader (before_first is_line_end part) header
Begins part (Key key) = begins_key (first_words part) ≡ true
Begins part (Value value) = begins_value (first_words part) ≡ true
Begins part Nothing = ⊤

-- A string has no backslash that escapes nothing.
abbrev pub HasGoodEscapes : Data → Type 0
HasGoodEscapes Deleted = ⊤
HasGoodEscapes (Text string) = has_good_escapes string.now ≡ true
HasGoodEscapes (Number number) = ⊤
HasGoodEscapes (Bytes number digits) = ⊤
HasGoodEscapes Damaged = ⊤

-- Neither has the string of a value.
abbrev pub IsEscaped : Entry → Type 0
IsEscaped (Header header) = ⊤
IsEscaped (Key key) = ⊤
IsEscaped (Value value) = HasGoodEscapes value.data
IsEscaped Nothing = ⊤

-- Whether a part is the header.
abbrev pub is_header : Entry → Bool
is_header (Header header) = true
is_header (Key key) = false
is_header (Value value) = false
is_header Nothing = false

-- Whether a part is a value.
abbrev pub is_value : Entry → Bool
is_value (Header header) = false
is_value (Key key) = false
is_value (Value value) = true
is_value Nothing = false

-- Whether a key is above what is behind a part: a key that is not deleted, or one above the part.
abbrev pub key_after : Entry → Bool → Bool
key_after (Header header) has_key = has_key
key_after (Key key) has_key = not key.is_deleted && nat_lt 0 (length key.path.now)
key_after (Value value) has_key = has_key
key_after Nothing has_key = has_key
