-- UTF-8 is what std writes, and what `code_point_at` reads.
use Rattle.std.proofs.Common.{◌≡◌, ◌<◌, ◌≤◌, ◌+◌, ◌*◌, ◌/◌, ◌%◌, ◌^◌, ℕ, List, [], ◌∷◌, ◌++◌, Some, inl, inr, refl, ap, ◌∙◌, arith}
use Rattle.std.specs.Char.{IsScalar, encode_utf8}
use Rattle.std.specs.Str.{encode_utf8_all}
use Rattle.std.proofs.lemmas.Bool.{cases_lt, lt-ltb, le-ltb, le-leb}
use Rattle.std.proofs.lemmas.Bool.Decides.{nat_tests}
use Rattle.wide_forms.specs.Utf8.{utf8_bytes, utf8, trailing_byte}
use Rattle.wide_forms.specs.CodePoint.{code_point_at}
use Rattle.wide_forms.specs.Laws.Forms.{ranges}

-- The bytes of a scalar value are those that std writes.
pub utf8_bytes-encode_utf8 : (c : ℕ) → utf8_bytes c ≡ encode_utf8 c
unfolding utf8_bytes encode_utf8
utf8_bytes-encode_utf8 c = refl

-- The bytes of a list of scalar values are those that std writes.
pub utf8-encode_utf8_all : (cs : List ℕ) → utf8 cs ≡ encode_utf8_all cs
utf8-encode_utf8_all [] = refl
utf8-encode_utf8_all (c ∷ cs) = ap (λ bs. bs ++ utf8 cs) (utf8_bytes-encode_utf8 c) ∙ ap (λ bs. encode_utf8 c ++ bs) (utf8-encode_utf8_all cs)

-- The one byte of a character below 80.
pub one_byte : (c : ℕ) → c < 0x80 → utf8_bytes c ≡ c ∷ []
unfolding utf8_bytes
one_byte c h = rw (lt-ltb c 0x80 h)

-- The two bytes of a character from 80 up to 7FF.
pub two_bytes : (c : ℕ) → 0x80 ≤ c → c < 0x800 → utf8_bytes c ≡ (0b1100_0000 + c / 2 ^ 6) ∷ trailing_byte c ∷ []
unfolding utf8_bytes
two_bytes c from below = rw (le-ltb c 0x80 from, lt-ltb c 0x800 below)

-- The three bytes of a character from 800 up to FFFF.
pub three_bytes : (c : ℕ) → 0x800 ≤ c → c < 0x1_0000 → utf8_bytes c ≡ (0b1110_0000 + c / 2 ^ 12) ∷ trailing_byte (c / 2 ^ 6) ∷ trailing_byte c ∷ []
unfolding utf8_bytes
three_bytes c from below = let from_80 : 0x80 ≤ c = omega arith in rw (le-ltb c 0x80 from_80, le-ltb c 0x800 from, lt-ltb c 0x1_0000 below)

-- The four bytes of a character from 1_0000 on.
pub four_bytes : (c : ℕ) → 0x1_0000 ≤ c → utf8_bytes c ≡ (0b1111_0000 + c / 2 ^ 18) ∷ trailing_byte (c / 2 ^ 12) ∷ trailing_byte (c / 2 ^ 6) ∷ trailing_byte c ∷ []
unfolding utf8_bytes
four_bytes c from = let from_80 : 0x80 ≤ c = omega arith in let from_800 : 0x800 ≤ c = omega arith in rw (le-ltb c 0x80 from_80, le-ltb c 0x800 from_800, le-ltb c 0x1_0000 from)

-- `code_point_at` reads one byte if the first is below 80.
at_one : (a : ℕ) (rest : List ℕ) → a < 0x80 → code_point_at (a ∷ rest) ≡ Some (a, rest)
at_one a rest h = rw (lt-ltb a 0x80 h)

-- `code_point_at` reads two bytes if the first is from C0 up to DF.
at_two : (a b c : ℕ) (rest : List ℕ) → 0xC0 ≤ a → a ≤ 0xDF → a % 2 ^ 5 * 2 ^ 6 + b % 2 ^ 6 ≡ c → code_point_at (a ∷ b ∷ rest) ≡ Some (c, rest)
at_two a b c rest from to e =
    let from_80 : 0x80 ≤ a = omega arith in
    rw (le-ltb a 0x80 from_80, le-leb 0xC0 a from, le-leb a 0xDF to) (ap (λ v. Some (v, rest)) e)

-- `code_point_at` reads three bytes if the first is from E0 up to EF.
at_three : (a b c d : ℕ) (rest : List ℕ) → 0xE0 ≤ a → a ≤ 0xEF → (a % 2 ^ 4 * 2 ^ 6 + b % 2 ^ 6) * 2 ^ 6 + c % 2 ^ 6 ≡ d → code_point_at (a ∷ b ∷ c ∷ rest) ≡ Some (d, rest)
at_three a b c d rest from to e = grind (arith, nat_tests)

-- `code_point_at` reads four bytes if the first is F0 or greater.
at_four : (a b c d e : ℕ) (rest : List ℕ) → 0xF0 ≤ a → ((a % 2 ^ 3 * 2 ^ 6 + b % 2 ^ 6) * 2 ^ 6 + c % 2 ^ 6) * 2 ^ 6 + d % 2 ^ 6 ≡ e → code_point_at (a ∷ b ∷ c ∷ d ∷ rest) ≡ Some (e, rest)
at_four a b c d e rest from h = grind (arith, nat_tests)

-- At the bytes of a code point (the Standard's D10) `code_point_at` reads it, and leaves what follows.
pub code_point_at-bytes : (c : ℕ) (rest : List ℕ) → c < 0x11_0000 → code_point_at (utf8_bytes c ++ rest) ≡ Some (c, rest)
code_point_at-bytes c rest bound =
    elim (cases_lt c 0x80) [
      | inl below ↦ rw (one_byte c below) (at_one c rest below)
      | inr from_80 ↦ elim (cases_lt c 0x800) [
        | inl below ↦ rw (two_bytes c from_80 below) (at_two (0b1100_0000 + c / 2 ^ 6) (trailing_byte c) c rest (omega arith) (omega arith) (omega arith))
        | inr from_800 ↦ elim (cases_lt c 0x1_0000) [
          | inl below ↦ rw (three_bytes c from_800 below) (at_three (0b1110_0000 + c / 2 ^ 12) (trailing_byte (c / 2 ^ 6)) (trailing_byte c) c rest (omega arith) (omega arith) (omega arith))
          | inr from ↦ rw (four_bytes c from) (at_four (0b1111_0000 + c / 2 ^ 18) (trailing_byte (c / 2 ^ 12)) (trailing_byte (c / 2 ^ 6)) (trailing_byte c) c rest (omega arith) (omega arith))
        ]
      ]
    ]

-- At the beginning of a text `code_point_at` reads the first character, and leaves the bytes of the others.
pub code_point_at-text : (c : ℕ) (cs : List ℕ) → IsScalar c → code_point_at (utf8 (c ∷ cs)) ≡ Some (c, utf8 cs)
code_point_at-text c cs scalar = code_point_at-bytes c (utf8 cs) (ranges c scalar).below
