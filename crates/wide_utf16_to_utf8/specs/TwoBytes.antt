-- The UTF-8 of units below 0x800, from two bytes for each.
use Rattle.wide_forms.specs.Bits.{bit_of}
use Rattle.std.specs.Prelude.{◌≡◌, ℕ, ◌+◌, ◌*◌, ◌/◌, ◌%◌, ◌<◌, ◌≤◌, nat_lt, Bool, if◌then◌else◌, List, [], ◌∷◌, ◌++◌, slice_index}

-- The first of a unit's two bytes, and the second if the unit is not ASCII.
abbrev pub compress : Bool → ℕ → List ℕ → List ℕ
compress ascii k pairs = if ascii then slice_index pairs k ∷ [] else slice_index pairs k ∷ slice_index pairs (k + 1) ∷ []

-- The bytes of all units, from the index k on.
abbrev pub compressed : List ℕ → ℕ → List ℕ → List ℕ
compressed [] k pairs = []
compressed (u ∷ units) k pairs = compress (nat_lt u 0x80) k pairs ++ compressed units (k + 2) pairs

-- One bit for each unit, from the lowest on: set if the unit is below the bound.
abbrev pub below_bits : ℕ → List ℕ → ℕ
below_bits bound [] = 0
below_bits bound (u ∷ units) = bit_of (nat_lt u bound) + 2 * below_bits bound units

-- The two bytes of a unit below 0x800. The second is arbitrary if the unit is ASCII.
pub record IsPair (u first second : ℕ) : Type 0 where
  pub one : u < 0x80 → first ≡ u
  pub two : 0x80 ≤ u → u < 0x800 → (first ≡ 0xc0 + u / 0x40) × (second ≡ 0x80 + u % 0x40)
