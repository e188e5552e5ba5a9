-- How long the bytes of units are in WTF-8, unit by unit.
use Rattle.std.specs.Prelude.{ℕ, zero, suc, ◌+◌, not, ◌&&◌, nat_le, if◌then◌else◌, List, [], ◌∷◌, slice_index}
use Rattle.wide_forms.specs.Searches.{is_high, is_low}

-- How many bytes more than one a unit has before another one. Of the four bytes of a pair, the first half counts for
-- one, and the second half for three.
abbrev pub more_of : ℕ → ℕ → ℕ
more_of u next = (if nat_le 0x80 u && not (is_high u && is_low next) then 1 else 0) + (if nat_le 0x800 u && not (is_high u && is_low next) then 1 else 0)

-- How many bytes more than one the first units have, summed. No unit follows the last one.
abbrev pub more_of_first : ℕ → List ℕ → ℕ
more_of_first zero us = 0
more_of_first (suc n) [] = 0
more_of_first (suc n) (u ∷ us) = more_of u (slice_index us 0) + more_of_first n us
