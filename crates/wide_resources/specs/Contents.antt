-- The contents of a resource.
use Rattle.std.specs.Prelude.{◌≡◌, ℕ, ◌-◌, ◌≤◌, List, length, drop}
use Rattle.std.specs.Prelude.{All}

-- Whether bytes are the last ones of some contents.
abbrev pub IsSuffix : List ℕ → List ℕ → Type 0
IsSuffix rest contents = rest ≡ drop (length contents - length rest) contents

-- Whether bytes are zeros that fill a number of 32 bits.
abbrev pub IsPadding : List ℕ → Type 0
IsPadding bytes = (length bytes ≤ 3) × All (λ byte. byte ≡ 0) bytes
