-- NULs in a list of units, by their numbers.
use Rattle.std.specs.Prelude.{◌≡◌, ℕ, ◌<◌, List, length, slice_index}

-- The unit at this index is a NUL.
abbrev pub IsNulAt : List ℕ → ℕ → Type 0
IsNulAt us offset = (offset < length us) × (slice_index us offset ≡ 0)

-- No NUL precedes this index.
abbrev pub NoNulBefore : List ℕ → ℕ → Type 0
NoNulBefore us offset = (earlier : ℕ) → earlier < offset → ¬ (IsNulAt us earlier)

-- No unit of the list is a NUL.
abbrev pub HasNoNul : List ℕ → Type 0
HasNoNul us = NoNulBefore us (length us)

-- The first NUL is at this index.
pub record IsFirstNul (us : List ℕ) (offset : ℕ) : Type 0 where
  pub at : IsNulAt us offset
  pub before : NoNulBefore us offset
