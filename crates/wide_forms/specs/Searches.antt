-- Indices in a list of units, by a test of each unit.
use Rattle.std.specs.Prelude.{◌≤◌, ◌<◌, length, slice_index, ℕ, Bool, not, ◌&&◌, ◌||◌, nat_le, nat_lt, nat_eq, List}
use Rattle.std.specs.List.{prefix_len}

-- Whether a unit is a surrogate, D800 to DFFF (section 3.8).
abbrev pub is_surrogate : ℕ → Bool
is_surrogate u = nat_le 0xd800 u && nat_le u 0xdfff

-- Whether a unit is a high surrogate, D800 to DBFF.
abbrev pub is_high : ℕ → Bool
is_high u = nat_le 0xd800 u && nat_le u 0xdbff

-- Whether a unit is a low surrogate, DC00 to DFFF.
abbrev pub is_low : ℕ → Bool
is_low u = nat_le 0xdc00 u && nat_le u 0xdfff

-- Whether a unit is not a Unicode scalar value.
abbrev pub is_no_scalar : ℕ → Bool
is_no_scalar u = is_surrogate u || nat_lt 0x10_ffff u

-- Whether a unit is equal to `number`.
abbrev pub is_unit : ℕ → ℕ → Bool
is_unit number u = nat_eq u number

-- The index of the first unit that passes the test, or the length if none does.
abbrev pub first_offset : (ℕ → Bool) → List ℕ → ℕ
first_offset test us = prefix_len (λ u. not (test u)) us

-- The index is that of the first unit of a kind, or the length if there is none.
pub record IsFirstOffset (Kind : ℕ → Type 0) (us : List ℕ) (offset : ℕ) : Type 0 where
  pub within : offset ≤ length us
  pub before : (earlier : ℕ) → earlier < offset → ¬ (Kind (slice_index us earlier))
  pub here : offset < length us → Kind (slice_index us offset)
