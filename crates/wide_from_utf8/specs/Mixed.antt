-- The scalar values of characters of one to three bytes, as if one began at each byte of text.
use Rattle.std.specs.Prelude.{ℕ, zero, suc, ◌+◌, ◌*◌, nat_lt, Bool, true, if◌then◌else◌, List, [], ◌∷◌, slice_index}
use Rattle.wide_from_utf8.specs.Decoded.{code_of_three, code_of_two}
use Rattle.wide_forms.specs.Bits.{bit_of}

-- The scalar value of a first byte and the two bytes after it.
abbrev pub code_of : ℕ → ℕ → ℕ → ℕ
code_of a b c = if nat_lt a 0x80 then a else if nat_lt a 0xE0 then code_of_two a b else code_of_three a b c

-- The scalar value at each of the first bytes.
abbrev pub codes_at : ℕ → List ℕ → List ℕ
codes_at zero bs = []
codes_at (suc n) [] = []
codes_at (suc n) (b ∷ bs) = code_of b (slice_index bs 0) (slice_index bs 1) ∷ codes_at n bs

-- The byte is no continuation byte.
abbrev pub begins : ℕ → Bool
begins b = if nat_lt b 0x80 then true else nat_lt 0xBF b

-- One bit for each of the first bytes, from the lowest on: set if the byte begins a character.
abbrev pub lead_bits : ℕ → List ℕ → ℕ
lead_bits zero bs = 0
lead_bits (suc n) [] = 0
lead_bits (suc n) (b ∷ bs) = bit_of (begins b) + 2 * lead_bits n bs

-- How many of the first two bytes are continuation bytes at the beginning of the text.
abbrev pub trailing_len : List ℕ → ℕ
trailing_len bs = if begins (slice_index bs 0) then 0 else if begins (slice_index bs 1) then 1 else 2
