-- Which byte may follow others in well-formed UTF-8: the Standard's Table 3-7.
use Rattle.std.specs.Prelude.{◌≡◌, ℕ, ◌-◌, ◌<◌, ◌≤◌, ◌⊎◌, List, slice_index}

-- No character is incomplete after these three bytes, of which `first` is the nearest.
abbrev pub IsWholeAfter : ℕ → ℕ → ℕ → Type 0
IsWholeAfter third second first = (third < 0xF0) × (second < 0xE0) × (first < 0xC0)

-- The byte may follow the three bytes.
pub record CanFollow (third second first byte : ℕ) : Type 0 where
  pub begins : IsWholeAfter third second first → (byte < 0x80) ⊎ ((0xC2 ≤ byte) × (byte < 0xF5))
  pub trails : (0xF0 ≤ third) ⊎ ((0xE0 ≤ second) ⊎ (0xC0 ≤ first)) → (0x80 ≤ byte) × (byte < 0xC0)
  pub three : (first ≡ 0xE0 → 0xA0 ≤ byte) × (first ≡ 0xED → byte < 0xA0)
  pub four : (first ≡ 0xF0 → 0x90 ≤ byte) × (first ≡ 0xF4 → byte < 0x90)

-- The offset is `end` if all characters before it are complete, or otherwise that of the leading byte of the last
-- character before `end`.
abbrev pub IsWholeUpTo : List ℕ → ℕ → ℕ → Type 0
IsWholeUpTo bytes end offset =
    ((offset ≡ end) × IsWholeAfter (slice_index bytes (end - 3)) (slice_index bytes (end - 2)) (slice_index bytes (end - 1))) ⊎ ((offset < end) × (0xC0 ≤ slice_index bytes offset))
