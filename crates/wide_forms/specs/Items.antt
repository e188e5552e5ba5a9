-- The items of a list of code units, and definitions for texts that depend on them: the Standard's D84 and D85.
use Rattle.std.specs.Prelude.{◌≡◌, ℕ, List, [], ◌∷◌, ◌++◌, map, length, Option, Some, None}
use Rattle.std.specs.List.{Contains}
use Rattle.std.specs.Option.{option_map}
use Rattle.wide_forms.specs.EncodingForm.{EncodingForm, encode}
use Rattle.wide_forms.specs.Segmentation.{Item, Char, Fault, units_of, IsSegmentation}
use Rattle.wide_forms.specs.Laws.Chains.{chain_for, IsSegmentation-of_chain}

-- The only segmentation of the units. It is opaque: all that is known about it is `items-segment`, and that there is no
-- other.
pub items : EncodingForm → List ℕ → List Item
items form units = (chain_for form units).0

pub items-segment : (form : EncodingForm) (units : List ℕ) → IsSegmentation form (items form units) units
unfolding items
items-segment form units = IsSegmentation-of_chain form (chain_for form units).0 units (chain_for form units).1 (chain_for form units).2

-- No fault is among the items: the units are well formed in the form (the Standard's D85).
pub record IsWellFormed (form : EncodingForm) (units : List ℕ) : Type 0 where
  pub no_fault : (u : ℕ) → ¬ (Contains (items form units) (Fault u))

-- The characters among the items.
abbrev pub characters : List Item → List ℕ
characters [] = []
characters (Char c ∷ is) = c ∷ characters is
characters (Fault u ∷ is) = characters is

-- The characters of the units, without the faults.
abbrev pub chars : EncodingForm → List ℕ → List ℕ
chars form units = characters (items form units)

-- The offset, in units, is between two items, or at an end.
abbrev pub IsBoundary : EncodingForm → List ℕ → ℕ → Type 0
IsBoundary form units offset = (prefix back : List Item) × (items form units ≡ prefix ++ back) × (length (units_of form prefix) ≡ offset)

-- The characters before the first fault.
abbrev pub leading_characters : List Item → List ℕ
leading_characters [] = []
leading_characters (Char c ∷ is) = c ∷ leading_characters is
leading_characters (Fault u ∷ is) = []

-- The unit of the first fault.
abbrev pub first_fault_unit : List Item → Option ℕ
first_fault_unit [] = None
first_fault_unit (Char c ∷ is) = first_fault_unit is
first_fault_unit (Fault u ∷ is) = Some u

-- The first fault: its index, which is the length in units of the characters before it, its item number, which is the
-- number of these characters, and its unit.
abbrev pub first_fault : EncodingForm → List Item → Option (ℕ × ℕ × ℕ)
first_fault form is = option_map (λ u. (length (encode form (leading_characters is)), length (leading_characters is), u)) (first_fault_unit is)

-- The units have a fault, and the first one has this index, this item number and this unit.
abbrev pub IsFirstFault : EncodingForm → List ℕ → ℕ → ℕ → ℕ → Type 0
IsFirstFault form units index item u = first_fault form (items form units) ≡ Some (index, item, u)

-- The units encode some characters, followed by the units `rest`.
abbrev pub BeginsWithChars : EncodingForm → List ℕ → List ℕ → Type 0
BeginsWithChars form us rest = (cs : List ℕ) × (items form us ≡ map Char cs ++ items form rest)
