-- Hexadecimal numbers.
use Rattle.std.specs.Prelude.{ℕ, ◌+◌, ◌*◌, ◌<◌, List, All, fold}
use Rattle.std.specs.Char.{digit_value}

-- All units are hexadecimal digits.
abbrev pub IsHex : List ℕ → Type 0
IsHex units = All (λ unit. digit_value unit < 16) units

-- The number that digits are.
abbrev pub number : List ℕ → ℕ
number digits = fold (λ value unit. value * 16 + digit_value unit) 0 digits
