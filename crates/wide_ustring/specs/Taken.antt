-- The character or the unit that an edit removes.
use Rattle.std.specs.Prelude.{◌≡◌, ℕ, List, [], ◌∷◌, ◌++◌}
use Rattle.wide_forms.specs.EncodingForm.{EncodingForm}
use Rattle.wide_forms.specs.Segmentation.{Item, Char, Fault}
use Rattle.wide_forms.specs.Items.{items}

-- The number of a character, or of a fault's unit.
abbrev pub item_code : Item → ℕ
item_code (Char c) = c
item_code (Fault u) = u

-- The first item of the units was removed, and `code` is its number.
pub record TakesFirst (form : EncodingForm) (old new : List ℕ) (code : ℕ) : Type 0 where
  pub item : Item
  pub was : items form old ≡ item ∷ items form new
  pub is_code : code ≡ item_code item

-- The last item of the units was removed, and `code` is its number.
pub record TakesLast (form : EncodingForm) (old new : List ℕ) (code : ℕ) : Type 0 where
  pub item : Item
  pub was : items form old ≡ items form new ++ item ∷ []
  pub is_code : code ≡ item_code item
