-- The code point at the beginning of some bytes, whether or not they are UTF-8: the bits of its bytes, the highest
-- first.
use Rattle.std.specs.Prelude.{ℕ, ◌+◌, ◌*◌, ◌%◌, ◌^◌, nat_lt, nat_le, ◌&&◌, if◌then◌else◌, List, [], ◌∷◌, Option, Some, None}

-- Some bits, with the lowest six bits of a byte after them.
abbrev pub with_byte : ℕ → ℕ → ℕ
with_byte bits byte = bits * 2 ^ 6 + byte % 2 ^ 6

-- Some bits, with those of the next byte after them, and the bytes that follow it.
abbrev pub with_one : ℕ → List ℕ → Option (ℕ × List ℕ)
with_one bits (b ∷ rest) = Some (with_byte bits b, rest)
with_one bits [] = None

-- Some bits, with those of the next two bytes after them, and the bytes that follow these.
abbrev pub with_two : ℕ → List ℕ → Option (ℕ × List ℕ)
with_two bits (b ∷ c ∷ rest) = Some (with_byte (with_byte bits b) c, rest)
with_two bits bytes = None

-- Some bits, with those of the next three bytes after them, and the bytes that follow these.
abbrev pub with_three : ℕ → List ℕ → Option (ℕ × List ℕ)
with_three bits (b ∷ c ∷ d ∷ rest) = Some (with_byte (with_byte (with_byte bits b) c) d, rest)
with_three bits bytes = None

-- The first byte determines how many bytes follow it: none below 80, one from C0 to DF, two from E0 to EF, and
-- otherwise three.
abbrev pub code_point_at : List ℕ → Option (ℕ × List ℕ)
code_point_at [] = None
code_point_at (a ∷ rest) =
    if nat_lt a 0x80 then Some (a, rest)
    else if nat_le 0xC0 a && nat_le a 0xDF then with_one (a % 2 ^ 5) rest
    else if nat_le 0xE0 a && nat_le a 0xEF then with_two (a % 2 ^ 4) rest
    else with_three (a % 2 ^ 3) rest
