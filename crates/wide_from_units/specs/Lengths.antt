-- How many bytes more than one a unit of well-formed text has in UTF-8 (the Standard's Table 3-6).
use Rattle.std.specs.Prelude.{ℕ, ◌+◌, ◌/◌, not, ◌&&◌, nat_le, nat_eq}
use Rattle.std.specs.Prelude.{if◌then◌else◌}

-- How many bytes more than one a unit of UTF-16 has. Each surrogate of a pair counts for two of its four bytes.
abbrev pub more_of_16 : ℕ → ℕ
more_of_16 u = (if nat_le 0x80 u then 1 else 0) + (if nat_le 0x800 u && not (nat_eq (u / 0x800) 27) then 1 else 0)

-- How many bytes more than one a unit of UTF-32 has.
abbrev pub more_of_32 : ℕ → ℕ
more_of_32 u = (if nat_le 0x80 u then 1 else 0) + (if nat_le 0x800 u then 1 else 0) + (if nat_le 0x1_0000 u then 1 else 0)
