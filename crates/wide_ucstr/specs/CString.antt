-- C strings: lists of units of which the last is a NUL, and the only one.
use Rattle.std.specs.Prelude.{ℕ, ◌-◌, List, length, take}
use Rattle.wide_unit.specs.Nul.{IsNulAt, IsFirstNul}

-- The last unit is a NUL.
abbrev pub EndsInNul : List ℕ → Type 0
EndsInNul us = IsNulAt us (length us - 1)

-- The last unit is the first NUL.
abbrev pub IsCString : List ℕ → Type 0
IsCString us = IsFirstNul us (length us - 1)

-- The units of a C string without its NUL: all but the last.
abbrev pub contents : {X : Type 0} → List X → List X
contents us = take (length us - 1) us
