-- The length of a text in code units, from its bytes.
use Rattle.std.proofs.Common.{◌≡◌, ◌<◌, ◌≤◌, ◌+◌, ◌/◌, ◌%◌, ◌^◌, ℕ, List, [], ◌∷◌, length, true, suc, inl, inr, refl, ap, sym, ◌∙◌, arith, ◌-◌, take, drop}
use Rattle.std.specs.Char.{IsScalar}
use Rattle.std.specs.List.{sum_by}
use Rattle.std.specs.Str.{IsUtf8, chars, all_scalars}
use Rattle.std.proofs.lemmas.Bool.{cases_lt, and_parts}
use Rattle.std.proofs.lemmas.Bool.Decides.{nat_tests}
use Rattle.std.proofs.lemmas.List.Sums.{sum_by-append, sum_by-cons}
use Rattle.std.proofs.Math.Seq.{take-add, take-length}
use Rattle.std.proofs.lemmas.List.Concat.{length-flat_map}
use Rattle.std.proofs.lemmas.Str.{encodes-chars, scalars-chars}
use Rattle.wide_forms.specs.EncodingForm.{Utf16, Utf32, code_units, encode}
use Rattle.wide_forms.specs.Utf8.{utf8_bytes, utf8, trailing_byte}
use Rattle.wide_unit.specs.LeadingByte.{begins, units_begun}
use Rattle.wide_forms.specs.Laws.Forms.{ranges, one_unit, two_units}
use Rattle.wide_forms.specs.Laws.Utf8.{utf8-encode_utf8_all, one_byte, two_bytes, three_bytes, four_bytes}

begun-ascii : (b : ℕ) → b < 0x80 → units_begun b ≡ 1
begun-ascii b h = grind (arith, nat_tests)

begun-lead : (b : ℕ) → 0xC0 ≤ b → b < 0xF0 → units_begun b ≡ 1
begun-lead b from below = grind (arith, nat_tests)

begun-lead_of_four : (b : ℕ) → 0xF0 ≤ b → units_begun b ≡ 2
begun-lead_of_four b from = grind (arith, nat_tests)

begun-trailing : (bits : ℕ) → units_begun (trailing_byte bits) ≡ 0
begun-trailing bits = let m : bits % 2 ^ 6 < 64 = omega arith in grind (arith, nat_tests)

module _ (weight : ℕ → ℕ) (none : weight 0 ≡ 0) where
  -- Only the first byte of each character has a weight, which depends on the number of units that begin there.
  abbrev pub byte_weight : ℕ → ℕ
  byte_weight b = weight (units_begun b)

  trailing-nothing : (bits : ℕ) (rest : List ℕ) → sum_by byte_weight rest ≡ 0 → sum_by byte_weight (trailing_byte bits ∷ rest) ≡ 0
  trailing-nothing bits rest e =
      let f : byte_weight (trailing_byte bits) ≡ 0 = ap weight (begun-trailing bits) ∙ none in
      omega (arith, sum_by-cons byte_weight (trailing_byte bits) rest)

  lead-alone : (b : ℕ) (rest : List ℕ) → sum_by byte_weight rest ≡ 0 → (n : ℕ) → units_begun b ≡ n → sum_by byte_weight (b ∷ rest) ≡ weight n
  lead-alone b rest e n begun =
      let f : byte_weight b ≡ weight n = ap weight begun in
      omega (arith, sum_by-cons byte_weight b rest)

  weight-character : (c : ℕ) → IsScalar c → sum_by byte_weight (utf8_bytes c) ≡ weight (length (code_units Utf16 c))
  weight-character c scalar =
      let bound = (ranges c scalar).below in
      let low = trailing_byte c ∷ [] in
      let mid = trailing_byte (c / 2 ^ 6) ∷ low in
      let high = trailing_byte (c / 2 ^ 12) ∷ mid in
      let of_low = trailing-nothing c [] refl in
      let of_mid = trailing-nothing (c / 2 ^ 6) low of_low in
      let of_high = trailing-nothing (c / 2 ^ 12) mid of_mid in
      elim (cases_lt c 0x80) [
        | inl below ↦ rw (one_byte c below, one_unit c (omega arith)) (lead-alone c [] refl 1 (begun-ascii c below))
        | inr from_80 ↦ elim (cases_lt c 0x800) [
          | inl below ↦ rw (two_bytes c from_80 below, one_unit c (omega arith)) (lead-alone (0b1100_0000 + c / 2 ^ 6) low of_low 1 (begun-lead (0b1100_0000 + c / 2 ^ 6) (omega arith) (omega arith)))
          | inr from_800 ↦ elim (cases_lt c 0x1_0000) [
            | inl below ↦ rw (three_bytes c from_800 below, one_unit c below) (lead-alone (0b1110_0000 + c / 2 ^ 12) mid of_mid 1 (begun-lead (0b1110_0000 + c / 2 ^ 12) (omega arith) (omega arith)))
            | inr from ↦ rw (four_bytes c from, two_units c from) (lead-alone (0b1111_0000 + c / 2 ^ 18) high of_high 2 (begun-lead_of_four (0b1111_0000 + c / 2 ^ 18) (omega arith)))
          ]
        ]
      ]

  weight-characters : (cs : List ℕ) → all_scalars cs ≡ true → sum_by byte_weight (utf8 cs) ≡ sum_by (λ c. weight (length (code_units Utf16 c))) cs
  weight-characters [] h = refl
  weight-characters (c ∷ cs) h =
      let parts = and_parts _ _ h in
      sum_by-append byte_weight (utf8_bytes c) (utf8 cs)
      ∙ rw (weight-character c (parts.0), weight-characters cs (parts.1)) (sym (sum_by-cons (λ x. weight (length (code_units Utf16 x))) c cs))

  weight-text : (bs : List ℕ) → IsUtf8 bs → sum_by byte_weight bs ≡ sum_by (λ c. weight (length (code_units Utf16 c))) (chars bs)
  weight-text bs text =
      ap (λ xs. sum_by byte_weight xs) (sym (utf8-encode_utf8_all (chars bs) ∙ encodes-chars bs text)) ∙ weight-characters (chars bs) (scalars-chars bs text)

-- The length of a text in UTF-16 is the number of units that begin at its bytes.
pub length-utf16 : (bs : List ℕ) → IsUtf8 bs → sum_by units_begun bs ≡ length (encode Utf16 (chars bs))
length-utf16 bs text = weight-text (λ n. n) refl bs text ∙ sym (length-flat_map (code_units Utf16) (chars bs))

-- A text has as many characters as bytes at which units begin.
count-all : (cs : List ℕ) → sum_by (λ c. begins (length (code_units Utf16 c))) cs ≡ length cs
count-all [] = refl
count-all (c ∷ cs) =
    let one : begins (length (code_units Utf16 c)) ≡ 1 = elim (cases_lt c 0x1_0000) [ inl below ↦ rw (one_unit c below) | inr from ↦ rw (two_units c from) ] in
    omega (arith, count-all cs, sum_by-cons (λ x. begins (length (code_units Utf16 x))) c cs)

-- The length of a text in UTF-32 is the number of bytes at which characters begin.
pub length-utf32 : (bs : List ℕ) → IsUtf8 bs → sum_by (λ b. begins (units_begun b)) bs ≡ length (chars bs)
length-utf32 bs text = weight-text begins refl bs text ∙ count-all (chars bs)

-- The length of characters in UTF-32 is their number.
pub length-encode_utf32 : (cs : List ℕ) → length (encode Utf32 cs) ≡ length cs
length-encode_utf32 [] = refl
length-encode_utf32 (c ∷ cs) = ap suc (length-encode_utf32 cs)

-- What is counted in a list before an index, and after it.
module _ {C : Type 0} (weight : C → ℕ) (xs : List C) where
  pub counted-on : (at n : ℕ) → sum_by weight (take (at + n) xs) ≡ sum_by weight (take at xs) + sum_by weight (take n (drop at xs))
  counted-on at n = ap (sum_by weight) (take-add at n xs) ∙ sum_by-append weight (take at xs) (take n (drop at xs))

  pub counted-all : (at : ℕ) → at ≤ length xs → sum_by weight xs ≡ sum_by weight (take at xs) + sum_by weight (take (length xs - at) (drop at xs))
  counted-all at within =
      let whole : at + (length xs - at) ≡ length xs = omega arith in
      ap (sum_by weight) (sym (take-length xs) ∙ ap (λ n. take n xs) (sym whole)) ∙ counted-on at (length xs - at)
