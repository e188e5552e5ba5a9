-- The UTF-8 of four units that are characters, from four bytes for each, of which the first one to three are used.
use Rattle.std.specs.Prelude.{◌≡◌, ℕ, ◌+◌, ◌*◌, ◌/◌, ◌%◌, nat_lt, if◌then◌else◌, List, [], ◌∷◌, ◌++◌, slice_index}

-- The length of a unit in UTF-8 bytes.
pub data Size : Type 0 where
  One : Size
  Two : Size
  Three : Size

-- The length in UTF-8 bytes of the unit with this number.
abbrev pub size_of : ℕ → Size
size_of u = if nat_lt u 0x80 then One else if nat_lt u 0x800 then Two else Three

-- The bytes of a unit of this size, which are the first ones from the index k on.
abbrev pub compressed_bytes_of : Size → ℕ → List ℕ → List ℕ
compressed_bytes_of One k words = slice_index words k ∷ []
compressed_bytes_of Two k words = slice_index words k ∷ slice_index words (k + 1) ∷ []
compressed_bytes_of Three k words = slice_index words k ∷ slice_index words (k + 1) ∷ slice_index words (k + 2) ∷ []

-- The bytes that are used for four units of these sizes.
abbrev pub compressed_bytes : Size → Size → Size → Size → List ℕ → List ℕ
compressed_bytes a b c d words = compressed_bytes_of a 0 words ++ compressed_bytes_of b 4 words ++ compressed_bytes_of c 8 words ++ compressed_bytes_of d 12 words

-- The digit of a unit of this size in the number of a row of `ROWS`.
abbrev pub digit_of : Size → ℕ
digit_of One = 3
digit_of Two = 2
digit_of Three = 0

-- The number of a row of `ROWS`: one digit in base four for each of four units, from the lowest on.
abbrev pub row_of : Size → Size → Size → Size → ℕ
row_of a b c d = digit_of a + 4 * (digit_of b + 4 * (digit_of c + 4 * digit_of d))

-- The row number of the four units from the index k on.
abbrev pub row_at : List ℕ → ℕ → ℕ
row_at units k = row_of (size_of (slice_index units k)) (size_of (slice_index units (k + 1))) (size_of (slice_index units (k + 2))) (size_of (slice_index units (k + 3)))

-- A lane of two bytes whose upper bits are the digit of a unit.
abbrev pub mask_of : ℕ → ℕ
mask_of u = if nat_lt u 0x80 then 0xffff else if nat_lt u 0x800 then 0xff00 else 0

-- The three bytes from an index on are both bytes of `lead` and the first of `back`.
pub record HoldsWord (words : List ℕ) (at lead back : ℕ) : Type 0 where
  pub first : slice_index words at ≡ lead % 0x100
  pub second : slice_index words (at + 1) ≡ lead / 0x100
  pub third : slice_index words (at + 2) ≡ back % 0x100

-- The first bytes of `lead` and `back`: as many as the key, read as a unit, has in UTF-8.
abbrev pub packed_unit : ℕ → ℕ → ℕ → List ℕ
packed_unit key lead back =
    if nat_lt key 0x80 then lead % 0x100 ∷ []
    else if nat_lt key 0x800 then lead % 0x100 ∷ lead / 0x100 ∷ []
    else lead % 0x100 ∷ lead / 0x100 ∷ back % 0x100 ∷ []

-- The bytes of all units, one unit after another, given the key and the bytes of each.
abbrev pub packed : List ℕ → List ℕ → List ℕ → List ℕ
packed [] leads backs = []
packed (k ∷ keys) [] backs = []
packed (k ∷ keys) (f ∷ leads) [] = []
packed (k ∷ keys) (f ∷ leads) (b ∷ backs) = packed_unit k f b ++ packed keys leads backs
