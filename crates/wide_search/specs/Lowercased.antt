-- Numbers without regard to the case of ASCII letters.
use Rattle.std.specs.Prelude.{ℕ, List, map}
use Rattle.std.specs.Char.{to_ascii_lowercase}

-- The numbers, with each upper-case ASCII letter in lower case.
abbrev pub lowercased : List ℕ → List ℕ
lowercased us = map to_ascii_lowercase us
