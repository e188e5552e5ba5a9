-- The first character of text, by its leading byte: the Standard's Table 3-6.
use Rattle.std.proofs.Common.{◌≡◌, ℕ, ◌+◌, ◌*◌, ◌/◌, ◌%◌, ◌^◌, ◌<◌, ◌≤◌, inl, inr, List, [], ◌∷◌, ◌++◌, true, length, get_or, drop, refl, sym, ap, ◌∙◌, subst, arith, length-append}
use Rattle.std.specs.Char.{IsScalar}
use Rattle.std.specs.Str.{IsUtf8, all_scalars, encode_utf8_all}
use Rattle.std.specs.Str.Pattern.{StartsWithChar}
use Rattle.std.proofs.Math.Seq.{drop-append_seam}
use Rattle.std.proofs.lemmas.Bool.{cases_lt, and_parts}
use Rattle.wide_forms.specs.Utf8.{utf8_bytes, trailing_byte}
use Rattle.wide_forms.specs.Laws.Forms.{ranges}
use Rattle.wide_forms.specs.Laws.Utf8.{one_byte, two_bytes, three_bytes, four_bytes, utf8_bytes-encode_utf8}

-- The bytes begin with those of a character.
starts : (bs bytes rest : List ℕ) (c n : ℕ) → bs ≡ bytes ++ rest → bytes ≡ utf8_bytes c → n ≡ length bytes → 0 < n → IsUtf8 rest → StartsWithChar bs c n
starts bs bytes rest c n joined is long some text =
    let beyond : drop n bs ≡ rest = ap (λ m. drop m bs) long ∙ ap (drop (length bytes)) joined ∙ drop-append_seam bytes rest in
    let same = is ∙ utf8_bytes-encode_utf8 c in (
      joined ∙ ap (λ xs. bytes ++ xs) (sym beyond) ∙ ap (λ ys. ys ++ drop n bs) same,
      long ∙ ap length same,
      some,
      omega (arith, ap length joined, length-append bytes rest, long),
      subst (λ xs. IsUtf8 xs) (sym beyond) text,
    )

data Shape (bs : List ℕ) : Type 0 where
  one : (c : ℕ) (rest : List ℕ) → IsScalar c → IsUtf8 rest → c < 0x80 → bs ≡ c ∷ rest → Shape bs
  two : (c : ℕ) (rest : List ℕ) → IsScalar c → IsUtf8 rest → 0x80 ≤ c → c < 0x800 → bs ≡ (0b1100_0000 + c / 2 ^ 6) ∷ trailing_byte c ∷ rest → Shape bs
  three : (c : ℕ) (rest : List ℕ) → IsScalar c → IsUtf8 rest → 0x800 ≤ c → c < 0x1_0000 → bs ≡ (0b1110_0000 + c / 2 ^ 12) ∷ trailing_byte (c / 2 ^ 6) ∷ trailing_byte c ∷ rest → Shape bs
  four : (c : ℕ) (rest : List ℕ) → IsScalar c → IsUtf8 rest → 0x1_0000 ≤ c → c < 0x11_0000 → bs ≡ (0b1111_0000 + c / 2 ^ 18) ∷ trailing_byte (c / 2 ^ 12) ∷ trailing_byte (c / 2 ^ 6) ∷ trailing_byte c ∷ rest → Shape bs

shape : (bs : List ℕ) → IsUtf8 bs → 0 < length bs → Shape bs
shape bs text some = by text.0 text.1.0 text.1.1
  where
    by : (cs : List ℕ) → all_scalars cs ≡ true → encode_utf8_all cs ≡ bs → Shape bs
    by [] scalars is = absurd (omega (arith, some, ap length is))
    by (c ∷ cs) scalars is =
        let scalar = (and_parts _ _ scalars).0 in
        let rest = encode_utf8_all cs in
        let tail : IsUtf8 rest = (cs, ((and_parts _ _ scalars).1, refl)) in
        let whole : bs ≡ utf8_bytes c ++ rest = sym is ∙ ap (λ xs. xs ++ rest) (sym (utf8_bytes-encode_utf8 c)) in
        elim (cases_lt c 0x80) [
          | inl low ↦ one c rest scalar tail low (whole ∙ ap (λ xs. xs ++ rest) (one_byte c low))
          | inr from ↦ elim (cases_lt c 0x800) [
            | inl low ↦ two c rest scalar tail from low (whole ∙ ap (λ xs. xs ++ rest) (two_bytes c from low))
            | inr from_800 ↦ elim (cases_lt c 0x1_0000) [
              | inl low ↦ three c rest scalar tail from_800 low (whole ∙ ap (λ xs. xs ++ rest) (three_bytes c from_800 low))
              | inr high ↦ four c rest scalar tail high (ranges c scalar).below (whole ∙ ap (λ xs. xs ++ rest) (four_bytes c high))
            ]
          ]
        ]

abbrev pub Trails : ℕ → Type 0
Trails b = (0x80 ≤ b) × (b < 0xC0)

-- No character begins with a continuation byte, and all its other bytes are continuation bytes.
pub record FirstBytes (bs : List ℕ) : Type 0 where
  pub leads : 0x80 ≤ get_or bs 0 0 → 0xC0 ≤ get_or bs 0 0
  pub second : 0x80 ≤ get_or bs 0 0 → Trails (get_or bs 1 0)
  pub third : 0xE0 ≤ get_or bs 0 0 → Trails (get_or bs 2 0)
  pub low : get_or bs 0 0 < 0xF5

-- The scalar value is computed from the bytes.
named : (bs : List ℕ) (c v n : ℕ) → IsScalar c → v ≡ c → StartsWithChar bs c n → IsScalar v × StartsWithChar bs v n
named bs c v n scalar same first = subst (λ w. IsScalar w × StartsWithChar bs w n) (sym same) (scalar, first)

module _ (bs : List ℕ) (text : IsUtf8 bs) (some : 0 < length bs) where
  byte : {xs : List ℕ} → bs ≡ xs → (k : ℕ) → get_or bs k 0 ≡ get_or xs k 0
  byte same k = ap (λ ys. get_or ys k 0) same

  -- A character of one byte is the byte.
  pub in_one : get_or bs 0 0 < 0x80 → IsScalar (get_or bs 0 0) × StartsWithChar bs (get_or bs 0 0) 1
  in_one low = by (shape bs text some)
    where
      by : Shape bs → IsScalar (get_or bs 0 0) × StartsWithChar bs (get_or bs 0 0) 1
      by (one c rest scalar tail below same) = named bs c _ 1 scalar (byte same 0) (starts bs (c ∷ []) rest c 1 same (sym (one_byte c below)) refl (omega arith) tail)
      by (two c rest scalar tail from below same) = absurd (omega (arith, byte same 0, low))
      by (three c rest scalar tail from below same) = absurd (omega (arith, byte same 0, low))
      by (four c rest scalar tail from below same) = absurd (omega (arith, byte same 0, low))

  -- A character of two bytes is computed from them.
  pub in_two : 0x80 ≤ get_or bs 0 0 → get_or bs 0 0 < 0xE0 → let v : ℕ = get_or bs 0 0 % 0x20 * 0x40 + get_or bs 1 0 % 0x40 in IsScalar v × StartsWithChar bs v 2
  in_two high low = by (shape bs text some)
    where
      by : Shape bs → let v : ℕ = get_or bs 0 0 % 0x20 * 0x40 + get_or bs 1 0 % 0x40 in IsScalar v × StartsWithChar bs v 2
      by (one c rest scalar tail below same) = absurd (omega (arith, byte same 0, high))
      by (two c rest scalar tail from below same) = named bs c _ 2 scalar (omega (arith, byte same 0, byte same 1, from, below)) (starts bs (_ ∷ _ ∷ []) rest c 2 same (sym (two_bytes c from below)) refl (omega arith) tail)
      by (three c rest scalar tail from below same) = absurd (omega (arith, byte same 0, low))
      by (four c rest scalar tail from below same) = absurd (omega (arith, byte same 0, low))

  -- A character of three bytes is computed from them.
  pub in_three : 0xE0 ≤ get_or bs 0 0 → get_or bs 0 0 < 0xF0 → let v : ℕ = get_or bs 0 0 % 0x10 * 0x1000 + get_or bs 1 0 % 0x40 * 0x40 + get_or bs 2 0 % 0x40 in IsScalar v × StartsWithChar bs v 3
  in_three high low = by (shape bs text some)
    where
      by : Shape bs → let v : ℕ = get_or bs 0 0 % 0x10 * 0x1000 + get_or bs 1 0 % 0x40 * 0x40 + get_or bs 2 0 % 0x40 in IsScalar v × StartsWithChar bs v 3
      by (one c rest scalar tail below same) = absurd (omega (arith, byte same 0, high, below))
      by (two c rest scalar tail from below same) = absurd (omega (arith, byte same 0, high, below))
      by (three c rest scalar tail from below same) = named bs c _ 3 scalar (omega (arith, byte same 0, byte same 1, byte same 2, from, below)) (starts bs (_ ∷ _ ∷ _ ∷ []) rest c 3 same (sym (three_bytes c from below)) refl (omega arith) tail)
      by (four c rest scalar tail from below same) = absurd (omega (arith, byte same 0, low))

  pub in_four : 0xF0 ≤ get_or bs 0 0 → let v : ℕ = get_or bs 0 0 % 8 * 0x4_0000 + get_or bs 1 0 % 0x40 * 0x1000 + get_or bs 2 0 % 0x40 * 0x40 + get_or bs 3 0 % 0x40 in IsScalar v × StartsWithChar bs v 4
  in_four high = by (shape bs text some)
    where
      by : Shape bs → let v : ℕ = get_or bs 0 0 % 8 * 0x4_0000 + get_or bs 1 0 % 0x40 * 0x1000 + get_or bs 2 0 % 0x40 * 0x40 + get_or bs 3 0 % 0x40 in IsScalar v × StartsWithChar bs v 4
      by (one c rest scalar tail below same) = absurd (omega (arith, byte same 0, high, below))
      by (two c rest scalar tail from below same) = absurd (omega (arith, byte same 0, high, below))
      by (three c rest scalar tail from below same) = absurd (omega (arith, byte same 0, high, below))
      by (four c rest scalar tail from below same) =
          named bs c _ 4 scalar (omega (arith, byte same 0, byte same 1, byte same 2, byte same 3, from, below)) (starts bs (_ ∷ _ ∷ _ ∷ _ ∷ []) rest c 4 same (sym (four_bytes c from)) refl (omega arith) tail)

  pub four-from : 0xF0 ≤ get_or bs 0 0 → 0x1_0000 ≤ get_or bs 0 0 % 8 * 0x4_0000 + get_or bs 1 0 % 0x40 * 0x1000 + get_or bs 2 0 % 0x40 * 0x40 + get_or bs 3 0 % 0x40
  four-from high = by (shape bs text some)
    where
      by : Shape bs → 0x1_0000 ≤ get_or bs 0 0 % 8 * 0x4_0000 + get_or bs 1 0 % 0x40 * 0x1000 + get_or bs 2 0 % 0x40 * 0x40 + get_or bs 3 0 % 0x40
      by (one c rest scalar tail below same) = absurd (omega (arith, byte same 0, high, below))
      by (two c rest scalar tail from below same) = absurd (omega (arith, byte same 0, high, below))
      by (three c rest scalar tail from below same) = absurd (omega (arith, byte same 0, high, below))
      by (four c rest scalar tail from below same) = omega (arith, byte same 0, byte same 1, byte same 2, byte same 3, from, below)

  -- The text has at least as many bytes as the first character, by its leading byte.
  pub wide : (0x80 ≤ get_or bs 0 0 → 1 < length bs) × (0xE0 ≤ get_or bs 0 0 → 2 < length bs) × (0xF0 ≤ get_or bs 0 0 → 3 < length bs)
  wide = by (shape bs text some)
    where
      by : Shape bs → (0x80 ≤ get_or bs 0 0 → 1 < length bs) × (0xE0 ≤ get_or bs 0 0 → 2 < length bs) × (0xF0 ≤ get_or bs 0 0 → 3 < length bs)
      by (one c rest scalar tail below same) = (λ high. absurd (omega (arith, byte same 0, high, below)), λ high. absurd (omega (arith, byte same 0, high, below)), λ high. absurd (omega (arith, byte same 0, high, below)))
      by (two c rest scalar tail from below same) = (λ high. omega (arith, ap length same), λ high. absurd (omega (arith, byte same 0, high, below)), λ high. absurd (omega (arith, byte same 0, high, below)))
      by (three c rest scalar tail from below same) = (λ high. omega (arith, ap length same), λ high. omega (arith, ap length same), λ high. absurd (omega (arith, byte same 0, high, below)))
      by (four c rest scalar tail from below same) = (λ high. omega (arith, ap length same), λ high. omega (arith, ap length same), λ high. omega (arith, ap length same))

  -- What holds for the bytes of the first character.
  pub parts : FirstBytes bs
  parts = by (shape bs text some)
    where
      by : Shape bs → FirstBytes bs
      by (one c rest scalar tail below same) = record { leads = λ high. absurd (omega (arith, byte same 0, high, below)); second = λ high. absurd (omega (arith, byte same 0, high, below)); third = λ high. absurd (omega (arith, byte same 0, high, below)); low = omega (arith, byte same 0, below) }
      by (two c rest scalar tail from below same) = record { leads = λ high. omega (arith, byte same 0, from, below); second = λ high. (omega (arith, byte same 1), omega (arith, byte same 1)); third = λ high. absurd (omega (arith, byte same 0, high, below)); low = omega (arith, byte same 0, below) }
      by (three c rest scalar tail from below same) = record { leads = λ high. omega (arith, byte same 0, from, below); second = λ high. (omega (arith, byte same 1), omega (arith, byte same 1)); third = λ high. (omega (arith, byte same 2), omega (arith, byte same 2)); low = omega (arith, byte same 0, below) }
      by (four c rest scalar tail from below same) = record { leads = λ high. omega (arith, byte same 0, from, below); second = λ high. (omega (arith, byte same 1), omega (arith, byte same 1)); third = λ high. (omega (arith, byte same 2), omega (arith, byte same 2)); low = omega (arith, byte same 0, below) }
