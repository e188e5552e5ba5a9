-- Which repaired units are retained under a policy that may have fewer replacement characters than faults.
use Rattle.std.specs.Prelude.{ℕ, zero, suc, ◌+◌, ◌*◌, ◌/◌, ◌%◌, nat_eq, nat_lt, Bool, true, not, if◌then◌else◌, List, [], ◌∷◌, is_some}
use Rattle.wide_forms.specs.Bits.{bit_of}
use Rattle.wide_forms.specs.Lossy.{replacement}
use Rattle.wide_forms.specs.declared.policy.Policy.{Policy}

-- Whether a repaired unit is retained: if it is the unit itself, or if the policy writes a replacement for it, given
-- whether the unit before it was replaced.
abbrev pub is_retained : Policy → ℕ → ℕ → ℕ → ℕ → Bool
is_retained policy before repaired_before unit repaired = if nat_eq unit repaired then true else is_some (replacement policy (not (nat_eq before repaired_before)))

-- One bit for each of the first units, from the lowest on: set if the repaired unit is retained. The unit before them
-- and its repaired unit are given.
abbrev pub retained_bits : ℕ → Policy → ℕ → ℕ → List ℕ → List ℕ → ℕ
retained_bits zero policy u m us ms = 0
retained_bits (suc n) policy u m [] ms = 0
retained_bits (suc n) policy u m (v ∷ us) [] = 0
retained_bits (suc n) policy u m (v ∷ us) (w ∷ ms) = bit_of (is_retained policy u m v w) + 2 * retained_bits n policy v w us ms

-- The lanes whose bits are set.
abbrev pub compressed_lanes : ℕ → List ℕ → List ℕ
compressed_lanes bits [] = []
compressed_lanes bits (x ∷ xs) = if nat_lt 0 (bits % 2) then x ∷ compressed_lanes (bits / 2) xs else compressed_lanes (bits / 2) xs
