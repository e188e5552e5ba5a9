-- What the first byte of a character in UTF-8 says about it.
use Rattle.std.specs.Prelude.{ℕ, nat_lt, nat_le, nat_eq, ◌||◌, if◌then◌else◌}

-- The number of UTF-16 units of the character that begins with this byte, or 0 for a continuation byte.
abbrev pub units_begun : ℕ → ℕ
units_begun byte = if nat_le 0xF0 byte then 2 else if nat_lt byte 0x80 || nat_le 0xC0 byte then 1 else 0

-- How many characters begin at a byte, given how many units do: one, or none.
abbrev pub begins : ℕ → ℕ
begins units = if nat_eq units 0 then 0 else 1
