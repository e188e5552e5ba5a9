-- Conversions of as much of a text as fits into a buffer.
use Rattle.std.specs.Prelude.{◌≡◌, ◌<◌, ◌≤◌, ℕ, List, [], ◌∷◌, ◌++◌, map, length, take, drop}
use Rattle.std.specs.List.{flat_map}
use Rattle.wide_forms.specs.Segmentation.{Item, Char, Fault}
use Rattle.wide_forms.specs.Utf8.{utf8_bytes}
use Rattle.wide_conversions.specs.Utf8Items.{utf8_items}

-- The first `read` elements of the source are those of some characters, and the same characters were written. `from` and
-- `to` give the elements of a character in the source and in what was written. The other items follow.
pub record Converts (items : List ℕ → List Item) (from to : ℕ → List ℕ) (source : List ℕ) (read : ℕ) (written : List ℕ) : Type 0 where
  pub characters : List ℕ
  pub within : read ≤ length source
  pub passed : take read source ≡ flat_map from characters
  pub text : written ≡ flat_map to characters
  pub rest : items source ≡ map Char characters ++ items (drop read source)

-- The items are none, or begin with a fault or with a character that has more than `room` elements.
abbrev pub StopsBefore : (ℕ → List ℕ) → ℕ → List Item → Type 0
StopsBefore to room [] = Unit {0}
StopsBefore to room (Fault u ∷ is) = Unit {0}
StopsBefore to room (Char c ∷ is) = room < length (to c)

-- The first `read` elements of the source were converted, and no more could be: the source has ended, or a fault
-- follows, or a character that does not fit into the `room` elements that are left.
pub record IsPart (items : List ℕ → List Item) (from to : ℕ → List ℕ) (source : List ℕ) (read : ℕ) (written : List ℕ) (room : ℕ) : Type 0 where
  pub converts : Converts items from to source read written
  pub stop : StopsBefore to room (items (drop read source))

-- The bytes begin with those of a character, which is their first item.
pub record BeginsWithChar (bytes : List ℕ) (c : ℕ) : Type 0 where
  pub rest : List ℕ
  pub whole : bytes ≡ utf8_bytes c ++ rest
  pub items : utf8_items bytes ≡ Char c ∷ utf8_items rest

-- The items are none, or begin with a fault.
abbrev pub BeginWithNoChar : List Item → Type 0
BeginWithNoChar [] = Unit {0}
BeginWithNoChar (Fault u ∷ is) = Unit {0}
BeginWithNoChar (Char c ∷ is) = ⊥
