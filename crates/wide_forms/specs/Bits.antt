-- Bits as numbers.
use Rattle.std.specs.Prelude.{ℕ, Bool, if◌then◌else◌}

-- 1 for true and 0 for false.
abbrev pub bit_of : Bool → ℕ
bit_of b = if b then 1 else 0
