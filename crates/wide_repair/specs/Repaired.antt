-- Units with U+FFFD in place of each one that belongs to no character, computed from each unit and its two neighbours.
use Rattle.std.specs.Prelude.{◌+◌, ℕ, List, ◌∷◌, Bool, not, ◌&&◌, ◌||◌, if◌then◌else◌, slice_index}
use Rattle.wide_forms.specs.Searches.{is_high, is_low, is_no_scalar}

-- Whether a unit is a high surrogate that no low one follows, or a low one that no high one precedes.
abbrev pub is_alone : ℕ → ℕ → ℕ → Bool
is_alone before u after = (is_high u && not (is_low after)) || (is_low u && not (is_high before))

-- The repaired unit of UTF-16, given the unit before and the one after it.
abbrev pub repaired_unit : ℕ → ℕ → ℕ → ℕ
repaired_unit before u after = if is_alone before u after then 0xFFFD else u

-- The repaired unit at an index. Before the first unit and after the last, 0 is used, which is no surrogate.
abbrev pub repaired_at : List ℕ → ℕ → ℕ
repaired_at us k = repaired_unit (slice_index (0 ∷ us) k) (slice_index us k) (slice_index us (k + 1))

-- The repaired unit of UTF-32, which does not depend on its neighbours.
abbrev pub repaired_scalar : ℕ → ℕ
repaired_scalar u = if is_no_scalar u then 0xFFFD else u
