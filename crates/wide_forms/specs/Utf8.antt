-- UTF-8, the encoding form of bytes: the Standard's D92, Table 3-6.
use Rattle.std.specs.Prelude.{ℕ, ◌+◌, ◌/◌, ◌%◌, ◌^◌, nat_lt, if◌then◌else◌, List, [], ◌∷◌}
use Rattle.std.specs.List.{flat_map}

-- The byte 10xxxxxx of the lowest six bits.
abbrev pub trailing_byte : ℕ → ℕ
trailing_byte bits = 0b1000_0000 + bits % 2 ^ 6

-- The bytes of a scalar value: its bits, the highest first.
unfoldable pub utf8_bytes : ℕ → List ℕ
utf8_bytes c =
    if nat_lt c 0x80 then c ∷ []
    else if nat_lt c 0x800 then (0b1100_0000 + c / 2 ^ 6) ∷ trailing_byte c ∷ []
    else if nat_lt c 0x1_0000 then (0b1110_0000 + c / 2 ^ 12) ∷ trailing_byte (c / 2 ^ 6) ∷ trailing_byte c ∷ []
    else (0b1111_0000 + c / 2 ^ 18) ∷ trailing_byte (c / 2 ^ 12) ∷ trailing_byte (c / 2 ^ 6) ∷ trailing_byte c ∷ []

-- The bytes of a list of scalar values.
abbrev pub utf8 : List ℕ → List ℕ
utf8 cs = flat_map utf8_bytes cs
