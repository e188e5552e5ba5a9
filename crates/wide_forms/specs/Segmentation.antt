-- How a list of code units is divided into characters and faults: the Standard's D85a (a minimal well-formed
-- subsequence) and D84a (an ill-formed one).
use Rattle.std.specs.Prelude.{◌≡◌, ℕ, ◌≤◌, List, [], ◌∷◌, ◌++◌}
use Rattle.std.specs.Char.{IsScalar}
use Rattle.std.specs.List.{All, Contains, flat_map}
use Rattle.wide_forms.specs.EncodingForm.{EncodingForm, Utf16, Utf32, code_units, IsFault, IsPair, IsHighSurrogate, IsLowSurrogate}

-- A character, which is a scalar value, or a code unit that belongs to no character.
pub data Item : Type 0 where
  Char : ℕ → Item
  Fault : ℕ → Item

-- The units of an item.
abbrev pub item_units : EncodingForm → Item → List ℕ
item_units form (Char c) = code_units form c
item_units form (Fault u) = u ∷ []

-- The concatenated units of the items.
abbrev pub units_of : EncodingForm → List Item → List ℕ
units_of form items = flat_map (item_units form) items

-- A character is a scalar value, and a fault encodes no scalar value by itself.
abbrev pub IsItem : EncodingForm → Item → Type 0
IsItem form (Char c) = IsScalar c
IsItem form (Fault u) = IsFault form u

-- The items are a segmentation of the units: joined they are the units, each item is a character or a fault, and no two
-- adjacent faults are a pair.
pub record IsSegmentation (form : EncodingForm) (items : List Item) (units : List ℕ) : Type 0 where
  pub joined : units_of form items ≡ units
  -- A character is a scalar value, and a fault encodes no scalar value by itself.
  pub proper : All (IsItem form) items
  -- No fault directly precedes another one with which it is a pair.
  pub unpaired : (prefix back : List Item) (h l : ℕ) → items ≡ prefix ++ Fault h ∷ Fault l ∷ back → ¬ (IsPair form h l)

-- A segmentation in UTF-16 as the Standard defines the form: each fault is a surrogate, and no high one directly
-- precedes a low one. For code units it is equivalent to `IsSegmentation Utf16`.
pub record IsSegmentation16 (items : List Item) (units : List ℕ) : Type 0 where
  pub joined : units_of Utf16 items ≡ units
  pub characters : (c : ℕ) → Contains items (Char c) → IsScalar c
  pub faults : (u : ℕ) → Contains items (Fault u) → (0xD800 ≤ u) × (u ≤ 0xDFFF)
  pub unpaired : (prefix back : List Item) (h l : ℕ) → items ≡ prefix ++ Fault h ∷ Fault l ∷ back → IsHighSurrogate Utf16 h → ¬ (IsLowSurrogate Utf16 l)

-- A segmentation in UTF-32 as the Standard defines the form: each fault is no scalar value. It is equivalent to
-- `IsSegmentation Utf32`.
pub record IsSegmentation32 (items : List Item) (units : List ℕ) : Type 0 where
  pub joined : units_of Utf32 items ≡ units
  pub characters : (c : ℕ) → Contains items (Char c) → IsScalar c
  pub faults : (u : ℕ) → Contains items (Fault u) → ¬ (IsScalar u)

-- A segmentation, but adjacent faults may be a pair. It does not determine the items: a law shows two for one pair.
pub record IsLooseSegmentation (form : EncodingForm) (items : List Item) (units : List ℕ) : Type 0 where
  pub joined : units_of form items ≡ units
  pub proper : All (IsItem form) items
