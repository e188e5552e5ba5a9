-- Units that are characters in four bytes for each, and the bytes of those that are used.
use Rattle.std.proofs.Common.{◌≡◌, ℕ, zero, suc, ◌+◌, ◌-◌, ◌*◌, ◌/◌, ◌%◌, ◌^◌, ◌<◌, ◌≤◌, T, cond, inl, inr, List, [], ◌∷◌, ◌++◌, length, get_or, map, replicate, take, drop, w8, refl, sym, ap, ◌∙◌, subst, arith, append_assoc}
use Rattle.std.proofs.lemmas.Bool.{cases_lt, lt-ltb, le-ltb}
use Rattle.std.proofs.lemmas.List.{append-nil, get_or-map, length-map}
use Rattle.std.proofs.lemmas.Simd.{Each1-get_or, bitmask_splat, swz_l}
use borrow.Rule.Slice.PartMut.{put_mid}
use lib.Dec.{leb}
use lib.Lanes.{put_chunk, Each1, digits_l, mask_l, number_l, top, zip2}
use Rattle.wide_forms.specs.Utf8.{utf8_bytes}
use Rattle.wide_forms.specs.Laws.Utf8.{one_byte, two_bytes, three_bytes}
use Rattle.wide_utf16_to_utf8.specs.Encoded.{EncodedUnits, IsLead}
use Rattle.wide_utf16_to_utf8.specs.ThreeBytes.{HoldsWord, Size, One, Two, Three, digit_of, compressed_bytes, compressed_bytes_of, packed, packed_unit, mask_of, row_at, row_of, size_of}
use Rattle.wide_utf16_to_utf8.specs.declared.three_bytes_rows.TheConstants.{ROWS, ROW_LENS}
use Rattle.wide_forms.proofs.Tables.{eight, high-byte, low-byte, same-lists}
use Rattle.wide_utf16_to_utf8.proofs.Stores.{list2, list3}
use Rattle.wide_utf16_to_utf8.proofs.Tables.{are-rows, each-most, is-row, row-stored}
use Rattle.wide_utf16_to_utf8.proofs.Tops.{double}
use Rattle.wide_utf16_to_utf8.proofs.UnitEncodings.{units-none, units-one, units-then}

-- ---- the table

picked : (a b c d : Size) (words : List ℕ) → take (get_or ROW_LENS (row_of a b c d) 0) (swz_l w8 16 words 0 (take 16 (get_or ROWS (row_of a b c d) []))) ≡ compressed_bytes a b c d words
picked One One One One words = refl
picked One One One Two words = refl
picked One One One Three words = refl
picked One One Two One words = refl
picked One One Two Two words = refl
picked One One Two Three words = refl
picked One One Three One words = refl
picked One One Three Two words = refl
picked One One Three Three words = refl
picked One Two One One words = refl
picked One Two One Two words = refl
picked One Two One Three words = refl
picked One Two Two One words = refl
picked One Two Two Two words = refl
picked One Two Two Three words = refl
picked One Two Three One words = refl
picked One Two Three Two words = refl
picked One Two Three Three words = refl
picked One Three One One words = refl
picked One Three One Two words = refl
picked One Three One Three words = refl
picked One Three Two One words = refl
picked One Three Two Two words = refl
picked One Three Two Three words = refl
picked One Three Three One words = refl
picked One Three Three Two words = refl
picked One Three Three Three words = refl
picked Two One One One words = refl
picked Two One One Two words = refl
picked Two One One Three words = refl
picked Two One Two One words = refl
picked Two One Two Two words = refl
picked Two One Two Three words = refl
picked Two One Three One words = refl
picked Two One Three Two words = refl
picked Two One Three Three words = refl
picked Two Two One One words = refl
picked Two Two One Two words = refl
picked Two Two One Three words = refl
picked Two Two Two One words = refl
picked Two Two Two Two words = refl
picked Two Two Two Three words = refl
picked Two Two Three One words = refl
picked Two Two Three Two words = refl
picked Two Two Three Three words = refl
picked Two Three One One words = refl
picked Two Three One Two words = refl
picked Two Three One Three words = refl
picked Two Three Two One words = refl
picked Two Three Two Two words = refl
picked Two Three Two Three words = refl
picked Two Three Three One words = refl
picked Two Three Three Two words = refl
picked Two Three Three Three words = refl
picked Three One One One words = refl
picked Three One One Two words = refl
picked Three One One Three words = refl
picked Three One Two One words = refl
picked Three One Two Two words = refl
picked Three One Two Three words = refl
picked Three One Three One words = refl
picked Three One Three Two words = refl
picked Three One Three Three words = refl
picked Three Two One One words = refl
picked Three Two One Two words = refl
picked Three Two One Three words = refl
picked Three Two Two One words = refl
picked Three Two Two Two words = refl
picked Three Two Two Three words = refl
picked Three Two Three One words = refl
picked Three Two Three Two words = refl
picked Three Two Three Three words = refl
picked Three Three One One words = refl
picked Three Three One Two words = refl
picked Three Three One Three words = refl
picked Three Three Two One words = refl
picked Three Three Two Two words = refl
picked Three Three Two Three words = refl
picked Three Three Three One words = refl
picked Three Three Three Two words = refl
picked Three Three Three Three words = refl

pub row-len : (n : ℕ) → get_or ROW_LENS n 0 ≤ 12
row-len n = omega (arith, each-most 13 ROW_LENS n (omega arith) tt)

pub rows-valid : T (are-rows ROWS)
unfolding are-rows is-row
rows-valid = tt

pub words-stored : (xs words : List ℕ) (at n : ℕ) (a b c d : Size) → n < 256 → n ≡ row_of a b c d → at + 16 ≤ length xs
    → take (at + get_or ROW_LENS n 0) (put_mid at (at + 16 - at) xs (put_chunk 0 (take (at + 16 - at) (drop at xs)) (swz_l w8 16 words 0 (take 16 (get_or ROWS n []))))) ≡ take at xs ++ compressed_bytes a b c d words
words-stored xs words at n a b c d within is space =
    let same : take (get_or ROW_LENS n 0) (swz_l w8 16 words 0 (take 16 (get_or ROWS n []))) ≡ compressed_bytes a b c d words = subst (λ k. take (get_or ROW_LENS k 0) (swz_l w8 16 words 0 (take 16 (get_or ROWS k []))) ≡ compressed_bytes a b c d words) (sym is) (picked a b c d words) in
    row-stored ROWS rows-valid n within xs words (compressed_bytes a b c d words) at (get_or ROW_LENS n 0) (omega (arith, row-len n)) space same

-- ---- the row number of four units

digit-small : (a : Size) → digit_of a ≤ 3
digit-small One = omega arith
digit-small Two = omega arith
digit-small Three = omega arith

pub row-small : (a b c d : Size) → row_of a b c d < 256
row-small a b c d = omega (arith, digit-small a, digit-small b, digit-small c, digit-small d)

-- The bytes of 16-bit numbers.
abbrev bytes-of : List ℕ → List ℕ
bytes-of [] = []
bytes-of (m ∷ ms) = m % 256 ∷ m / 256 ∷ bytes-of ms

cons-two : (x y z w : ℕ) (xs ys : List ℕ) → x ≡ y → z ≡ w → xs ≡ ys → x ∷ z ∷ xs ≡ y ∷ w ∷ ys
cons-two x y z w xs ys e f g = cc

bytes-are : (n : ℕ) (ms : List ℕ) → length ms ≡ n → Each1 (λ m. m < 65536) ms → digits_l 256 (double n) (number_l 65536 ms) ≡ bytes-of ms
bytes-are zero [] long each = refl
bytes-are zero (m ∷ ms) long each = absurd (omega arith)
bytes-are (suc n) [] long each = absurd (omega arith)
bytes-are (suc n) (m ∷ ms) long each =
    let rest : ℕ = number_l 65536 ms in
    let below : m < 65536 = each.0 in
    let first : (m + 65536 * rest) % 256 ≡ m % 256 = omega arith in
    let second : (m + 65536 * rest) / 256 % 256 ≡ m / 256 = omega (arith, below) in
    let third : (m + 65536 * rest) / 256 / 256 ≡ rest = omega (arith, below) in
    cons-two _ _ _ _ _ _ first second (ap (digits_l 256 (double n)) third ∙ bytes-are n ms (omega arith) each.1)

-- The digits of the lengths of units, in base four from the lowest on.
abbrev digits : List ℕ → ℕ
digits [] = 0
digits (u ∷ us) = digit_of (size_of u) + 4 * digits us

mask-bits : (u : ℕ) → cond {A = ℕ} (leb 128 (mask_of u % 256)) 1 0 + 2 * cond {A = ℕ} (leb 128 (mask_of u / 256)) 1 0 ≡ digit_of (size_of u)
mask-bits u = elim (cases_lt u 0x80) [
  | inl low ↦ rw (lt-ltb u 0x80 low) refl
  | inr from ↦ elim (cases_lt u 0x800) [
    | inl low ↦ rw (le-ltb u 0x80 from, lt-ltb u 0x800 low) refl
    | inr from_800 ↦ rw (le-ltb u 0x80 from, le-ltb u 0x800 from_800) refl
  ]
]

mask-fits : (u : ℕ) → mask_of u < 65536
mask-fits u = elim (cases_lt u 0x80) [
  | inl low ↦ rw (lt-ltb u 0x80 low) (omega arith)
  | inr from ↦ elim (cases_lt u 0x800) [
    | inl low ↦ rw (le-ltb u 0x80 from, lt-ltb u 0x800 low) (omega arith)
    | inr from_800 ↦ rw (le-ltb u 0x80 from, le-ltb u 0x800 from_800) (omega arith)
  ]
]

masks-fit : (us : List ℕ) → Each1 (λ m. m < 65536) (map mask_of us)
masks-fit [] = tt
masks-fit (u ∷ us) = (mask-fits u, masks-fit us)

masks-digits : (us : List ℕ) → mask_l (map (λ b. leb 128 b) (bytes-of (map mask_of us))) ≡ digits us
masks-digits [] = refl
masks-digits (u ∷ us) = omega (arith, mask-bits u, masks-digits us)

rows-of-eight : (a b c d e f g h : ℕ) → (digits (a ∷ b ∷ c ∷ d ∷ e ∷ f ∷ g ∷ h ∷ []) % 256 ≡ row_of (size_of a) (size_of b) (size_of c) (size_of d)) × (digits (a ∷ b ∷ c ∷ d ∷ e ∷ f ∷ g ∷ h ∷ []) / 256 ≡ row_of (size_of e) (size_of f) (size_of g) (size_of h))
rows-of-eight a b c d e f g h = (
  omega (arith, digit-small (size_of a), digit-small (size_of b), digit-small (size_of c), digit-small (size_of d)),
  omega (arith, digit-small (size_of a), digit-small (size_of b), digit-small (size_of c), digit-small (size_of d)),
)

module _ (us ms : List ℕ) (long : length us ≡ 8) (long_marks : length ms ≡ 8) (are : (k : ℕ) → k < 8 → get_or ms k 0 ≡ mask_of (get_or us k 0)) where
  bits-are : mask_l (map (top 7) (zip2 (λ a b. cond (leb b a) (2 ^ 8 - 1) 0) (digits_l 256 16 (number_l 65536 ms)) (replicate 16 0x80))) % 2 ^ 64 ≡ digits us
  bits-are =
      let others : length (map mask_of us) ≡ 8 = length-map us mask_of ∙ long in
      let same : ms ≡ map mask_of us = same-lists ms (map mask_of us) (long_marks ∙ sym others) (λ k within. are k (omega (arith, within, long_marks)) ∙ sym (get_or-map mask_of us k 0 0 (omega (arith, within, long_marks, long)))) in
      bitmask_splat w8 (λ a b. leb b a) (digits_l 256 16 (number_l 65536 ms)) 16 0x80 refl (omega arith)
      ∙ ap (λ xs. mask_l (map (λ b. leb 128 b) (digits_l 256 16 (number_l 65536 xs)))) same
      ∙ ap (λ bs. mask_l (map (λ b. leb 128 b) bs)) (bytes-are 8 (map mask_of us) others (masks-fit us))
      ∙ masks-digits us

  pub first-row : mask_l (map (top 7) (zip2 (λ a b. cond (leb b a) (2 ^ 8 - 1) 0) (digits_l 256 16 (number_l 65536 ms)) (replicate 16 0x80))) % 2 ^ 64 % 256 ≡ row_at us 0
  first-row = ap (λ n. n % 256) (bits-are ∙ ap digits (eight us long)) ∙ (rows-of-eight (get_or us 0 0) (get_or us 1 0) (get_or us 2 0) (get_or us 3 0) (get_or us 4 0) (get_or us 5 0) (get_or us 6 0) (get_or us 7 0)).0

  pub second-row : mask_l (map (top 7) (zip2 (λ a b. cond (leb b a) (2 ^ 8 - 1) 0) (digits_l 256 16 (number_l 65536 ms)) (replicate 16 0x80))) % 2 ^ 64 / 256 ≡ row_at us 4
  second-row = ap (λ n. n / 256) (bits-are ∙ ap digits (eight us long)) ∙ (rows-of-eight (get_or us 0 0) (get_or us 1 0) (get_or us 2 0) (get_or us 3 0) (get_or us 4 0) (get_or us 5 0) (get_or us 6 0) (get_or us 7 0)).1

-- ---- the four bytes of each unit

pub four-shuffle : (P : ℕ → Type 0) → P 0 → P 1 → P 2 → P 3 → (k : ℕ) → k < 4 → P k
four-shuffle P a b c d zero within = a
four-shuffle P a b c d (suc zero) within = b
four-shuffle P a b c d (suc (suc zero)) within = c
four-shuffle P a b c d (suc (suc (suc zero))) within = d
four-shuffle P a b c d (suc (suc (suc (suc k)))) within = absurd (omega arith)

-- The bytes of eight 16-bit lanes that hold the first two bytes of a unit and its third byte in turn.
module _ (xs : List ℕ) (long : length xs ≡ 8) (each : Each1 (λ x. x < 65536) xs) where
  pub holds-word : (k : ℕ) → k < 4 → get_or xs (2 * k) 0 < 65536 → HoldsWord (digits_l 256 16 (number_l 65536 xs)) (4 * k) (get_or xs (2 * k) 0) (get_or xs (2 * k + 1) 0)
  holds-word k within below =
      let ds = digits_l 256 16 (number_l 65536 xs) in
      let at : 4 * k ≡ 2 * (2 * k) = omega arith in
      let at_second : 4 * k + 1 ≡ 2 * (2 * k) + 1 = omega arith in
      let at_third : 4 * k + 2 ≡ 2 * (2 * k + 1) = omega arith in
      record {
        first = ap (λ n. get_or ds n 0) at ∙ low-byte xs long each (2 * k) (omega arith);
        second = ap (λ n. get_or ds n 0) at_second ∙ high-byte xs long each (2 * k) (omega arith) below;
        third = ap (λ n. get_or ds n 0) at_third ∙ low-byte xs long each (2 * k + 1) (omega arith);
      }

-- The lanes of two lists of eight, interleaved: those of the first four of each, and those of the last four.
abbrev low-lanes : List ℕ → List ℕ → List ℕ
low-lanes fs bs = let both = fs ++ bs in get_or both 0 0 ∷ get_or both 8 0 ∷ get_or both 1 0 ∷ get_or both 9 0 ∷ get_or both 2 0 ∷ get_or both 10 0 ∷ get_or both 3 0 ∷ get_or both 11 0 ∷ []

abbrev high-lanes : List ℕ → List ℕ → List ℕ
high-lanes fs bs = let both = fs ++ bs in get_or both 4 0 ∷ get_or both 12 0 ∷ get_or both 5 0 ∷ get_or both 13 0 ∷ get_or both 6 0 ∷ get_or both 14 0 ∷ get_or both 7 0 ∷ get_or both 15 0 ∷ []

module _ (fs bs : List ℕ) (long : length fs ≡ 8) (long_backs : length bs ≡ 8) (each_prefix : Each1 (λ x. x < 65536) fs) (each_back : Each1 (λ x. x < 65536) bs) where
  below : (k : ℕ) → k < 8 → get_or fs k 0 < 65536
  below k within = Each1-get_or (λ x. x < 65536) fs k 0 (omega arith) each_prefix

  below_backs : (k : ℕ) → k < 8 → get_or bs k 0 < 65536
  below_backs k within = Each1-get_or (λ x. x < 65536) bs k 0 (omega arith) each_back

  low-are : low-lanes fs bs ≡ get_or fs 0 0 ∷ get_or bs 0 0 ∷ get_or fs 1 0 ∷ get_or bs 1 0 ∷ get_or fs 2 0 ∷ get_or bs 2 0 ∷ get_or fs 3 0 ∷ get_or bs 3 0 ∷ []
  low-are = subst (λ xs. low-lanes xs bs ≡ get_or fs 0 0 ∷ get_or bs 0 0 ∷ get_or fs 1 0 ∷ get_or bs 1 0 ∷ get_or fs 2 0 ∷ get_or bs 2 0 ∷ get_or fs 3 0 ∷ get_or bs 3 0 ∷ []) (sym (eight fs long)) (subst (λ ys. low-lanes (get_or fs 0 0 ∷ get_or fs 1 0 ∷ get_or fs 2 0 ∷ get_or fs 3 0 ∷ get_or fs 4 0 ∷ get_or fs 5 0 ∷ get_or fs 6 0 ∷ get_or fs 7 0 ∷ []) ys ≡ get_or fs 0 0 ∷ get_or bs 0 0 ∷ get_or fs 1 0 ∷ get_or bs 1 0 ∷ get_or fs 2 0 ∷ get_or bs 2 0 ∷ get_or fs 3 0 ∷ get_or bs 3 0 ∷ []) (sym (eight bs long_backs)) refl)

  high-are : high-lanes fs bs ≡ get_or fs 4 0 ∷ get_or bs 4 0 ∷ get_or fs 5 0 ∷ get_or bs 5 0 ∷ get_or fs 6 0 ∷ get_or bs 6 0 ∷ get_or fs 7 0 ∷ get_or bs 7 0 ∷ []
  high-are = subst (λ xs. high-lanes xs bs ≡ get_or fs 4 0 ∷ get_or bs 4 0 ∷ get_or fs 5 0 ∷ get_or bs 5 0 ∷ get_or fs 6 0 ∷ get_or bs 6 0 ∷ get_or fs 7 0 ∷ get_or bs 7 0 ∷ []) (sym (eight fs long)) (subst (λ ys. high-lanes (get_or fs 0 0 ∷ get_or fs 1 0 ∷ get_or fs 2 0 ∷ get_or fs 3 0 ∷ get_or fs 4 0 ∷ get_or fs 5 0 ∷ get_or fs 6 0 ∷ get_or fs 7 0 ∷ []) ys ≡ get_or fs 4 0 ∷ get_or bs 4 0 ∷ get_or fs 5 0 ∷ get_or bs 5 0 ∷ get_or fs 6 0 ∷ get_or bs 6 0 ∷ get_or fs 7 0 ∷ get_or bs 7 0 ∷ []) (sym (eight bs long_backs)) refl)

  pub low-word : (k : ℕ) → k < 4 → HoldsWord (digits_l 256 16 (number_l 65536 (low-lanes fs bs))) (4 * k) (get_or fs k 0) (get_or bs k 0)
  low-word = subst (λ xs. (k : ℕ) → k < 4 → HoldsWord (digits_l 256 16 (number_l 65536 xs)) (4 * k) (get_or fs k 0) (get_or bs k 0)) (sym low-are)
      (let xs = get_or fs 0 0 ∷ get_or bs 0 0 ∷ get_or fs 1 0 ∷ get_or bs 1 0 ∷ get_or fs 2 0 ∷ get_or bs 2 0 ∷ get_or fs 3 0 ∷ get_or bs 3 0 ∷ [] in
      let each : Each1 (λ x. x < 65536) xs = (below 0 (omega arith), (below_backs 0 (omega arith), (below 1 (omega arith), (below_backs 1 (omega arith), (below 2 (omega arith), (below_backs 2 (omega arith), (below 3 (omega arith), (below_backs 3 (omega arith), tt)))))))) in
      let held = holds-word xs refl each in
      four-shuffle (λ k. HoldsWord (digits_l 256 16 (number_l 65536 xs)) (4 * k) (get_or fs k 0) (get_or bs k 0)) (held 0 (omega arith) (below 0 (omega arith))) (held 1 (omega arith) (below 1 (omega arith))) (held 2 (omega arith) (below 2 (omega arith))) (held 3 (omega arith) (below 3 (omega arith))))

  pub high-word : (k : ℕ) → k < 4 → HoldsWord (digits_l 256 16 (number_l 65536 (high-lanes fs bs))) (4 * k) (get_or fs (k + 4) 0) (get_or bs (k + 4) 0)
  high-word = subst (λ xs. (k : ℕ) → k < 4 → HoldsWord (digits_l 256 16 (number_l 65536 xs)) (4 * k) (get_or fs (k + 4) 0) (get_or bs (k + 4) 0)) (sym high-are)
      (let xs = get_or fs 4 0 ∷ get_or bs 4 0 ∷ get_or fs 5 0 ∷ get_or bs 5 0 ∷ get_or fs 6 0 ∷ get_or bs 6 0 ∷ get_or fs 7 0 ∷ get_or bs 7 0 ∷ [] in
      let each : Each1 (λ x. x < 65536) xs = (below 4 (omega arith), (below_backs 4 (omega arith), (below 5 (omega arith), (below_backs 5 (omega arith), (below 6 (omega arith), (below_backs 6 (omega arith), (below 7 (omega arith), (below_backs 7 (omega arith), tt)))))))) in
      let held = holds-word xs refl each in
      four-shuffle (λ k. HoldsWord (digits_l 256 16 (number_l 65536 xs)) (4 * k) (get_or fs (k + 4) 0) (get_or bs (k + 4) 0)) (held 0 (omega arith) (below 4 (omega arith))) (held 1 (omega arith) (below 5 (omega arith))) (held 2 (omega arith) (below 6 (omega arith))) (held 3 (omega arith) (below 7 (omega arith))))

-- ---- the bytes that are written

module _ (words : List ℕ) (at key lead back : ℕ) (word : HoldsWord words at lead back) where
  pub compressed-packed : compressed_bytes_of (size_of key) at words ≡ packed_unit key lead back
  compressed-packed = elim (cases_lt key 0x80) [
    | inl low ↦ rw (lt-ltb key 0x80 low) (ap (λ x. x ∷ []) word.first)
    | inr from ↦ elim (cases_lt key 0x800) [
      | inl low ↦ rw (le-ltb key 0x80 from, lt-ltb key 0x800 low) (list2 _ _ _ _ word.first word.second)
      | inr from_800 ↦ rw (le-ltb key 0x80 from, le-ltb key 0x800 from_800) (list3 _ _ _ _ _ _ word.first word.second word.third)
    ]
  ]

pub packed-unit : (u lead back : ℕ) → IsLead u lead → back ≡ 0x80 + u % 0x40 → u < 0x10000 → packed_unit u lead back ≡ utf8_bytes u
packed-unit u lead back is is_back below = elim (cases_lt u 0x80) [
  | inl low ↦ rw (lt-ltb u 0x80 low) (ap (λ x. x ∷ []) (omega (arith, is.one low)) ∙ sym (one_byte u low))
  | inr from ↦ elim (cases_lt u 0x800) [
    | inl low ↦ rw (le-ltb u 0x80 from, lt-ltb u 0x800 low) (list2 _ _ _ _ (omega (arith, is.two from low)) (omega (arith, is.two from low)) ∙ sym (two_bytes u from low))
    | inr from_800 ↦ rw (le-ltb u 0x80 from, le-ltb u 0x800 from_800) (list3 _ _ _ _ _ _ (omega (arith, is.three from_800)) (omega (arith, is.three from_800)) (omega (arith, is_back)) ∙ sym (three_bytes u from_800 below))
  ]
]

-- The bytes written for four of eight units, from their four bytes each.
pub row-packed : (words ks fs bs : List ℕ) (i : ℕ) → ((k : ℕ) → k < 4 → HoldsWord words (4 * k) (get_or fs (k + i) 0) (get_or bs (k + i) 0))
    → compressed_bytes (size_of (get_or ks (0 + i) 0)) (size_of (get_or ks (1 + i) 0)) (size_of (get_or ks (2 + i) 0)) (size_of (get_or ks (3 + i) 0)) words
    ≡ ((packed_unit (get_or ks (0 + i) 0) (get_or fs (0 + i) 0) (get_or bs (0 + i) 0) ++ packed_unit (get_or ks (1 + i) 0) (get_or fs (1 + i) 0) (get_or bs (1 + i) 0)) ++ packed_unit (get_or ks (2 + i) 0) (get_or fs (2 + i) 0) (get_or bs (2 + i) 0)) ++ packed_unit (get_or ks (3 + i) 0) (get_or fs (3 + i) 0) (get_or bs (3 + i) 0)
row-packed words ks fs bs i held =
    rw (compressed-packed words 0 (get_or ks (0 + i) 0) _ _ (held 0 (omega arith)), compressed-packed words 4 (get_or ks (1 + i) 0) _ _ (held 1 (omega arith)), compressed-packed words 8 (get_or ks (2 + i) 0) _ _ (held 2 (omega arith)), compressed-packed words 12 (get_or ks (3 + i) 0) _ _ (held 3 (omega arith))) refl

in-turn : (s a b c d e f g h : List ℕ) → (s ++ (((a ++ b) ++ c) ++ d)) ++ (((e ++ f) ++ g) ++ h) ≡ s ++ (a ++ (b ++ (c ++ (d ++ (e ++ (f ++ (g ++ (h ++ []))))))))
in-turn s a b c d e f g h =
    let four : (x y z w r : List ℕ) → (((x ++ y) ++ z) ++ w) ++ r ≡ x ++ (y ++ (z ++ (w ++ r))) = λ x y z w r. append_assoc ((x ++ y) ++ z) w r ∙ append_assoc (x ++ y) z (w ++ r) ∙ append_assoc x y (z ++ (w ++ r)) in
    append_assoc s (((a ++ b) ++ c) ++ d) (((e ++ f) ++ g) ++ h) ∙ ap (λ x. s ++ x) (four a b c d (((e ++ f) ++ g) ++ h) ∙ ap (λ x. a ++ (b ++ (c ++ (d ++ x)))) (sym (append-nil (((e ++ f) ++ g) ++ h)) ∙ four e f g h []))

pub eight-packed : (ks fs bs s t v low high : List ℕ) → length ks ≡ 8 → length fs ≡ 8 → length bs ≡ 8
    → ((k : ℕ) → k < 4 → HoldsWord low (4 * k) (get_or fs k 0) (get_or bs k 0)) → ((k : ℕ) → k < 4 → HoldsWord high (4 * k) (get_or fs (k + 4) 0) (get_or bs (k + 4) 0))
    → t ≡ s ++ compressed_bytes (size_of (get_or ks 0 0)) (size_of (get_or ks 1 0)) (size_of (get_or ks 2 0)) (size_of (get_or ks 3 0)) low
    → v ≡ t ++ compressed_bytes (size_of (get_or ks 4 0)) (size_of (get_or ks 5 0)) (size_of (get_or ks 6 0)) (size_of (get_or ks 7 0)) high → v ≡ s ++ packed ks fs bs
eight-packed ks fs bs s t v low high long_keys long long_backs held_low held_high first second =
    let none : (k : ℕ) → k < 4 → HoldsWord low (4 * k) (get_or fs (k + 0) 0) (get_or bs (k + 0) 0) = λ k within. (let same : k ≡ k + 0 = omega arith in subst (λ j. HoldsWord low (4 * k) (get_or fs j 0) (get_or bs j 0)) same (held_low k within)) in
    let lead = row-packed low ks fs bs 0 none in
    let back = row-packed high ks fs bs 4 held_high in
    let all : packed ks fs bs ≡ packed (get_or ks 0 0 ∷ get_or ks 1 0 ∷ get_or ks 2 0 ∷ get_or ks 3 0 ∷ get_or ks 4 0 ∷ get_or ks 5 0 ∷ get_or ks 6 0 ∷ get_or ks 7 0 ∷ [])
    (get_or fs 0 0 ∷ get_or fs 1 0 ∷ get_or fs 2 0 ∷ get_or fs 3 0 ∷ get_or fs 4 0 ∷ get_or fs 5 0 ∷ get_or fs 6 0 ∷ get_or fs 7 0 ∷ [])
    (get_or bs 0 0 ∷ get_or bs 1 0 ∷ get_or bs 2 0 ∷ get_or bs 3 0 ∷ get_or bs 4 0 ∷ get_or bs 5 0 ∷ get_or bs 6 0 ∷ get_or bs 7 0 ∷ []) =
    ap (λ x. packed x fs bs) (eight ks long_keys) ∙ ap (λ x. packed (get_or ks 0 0 ∷ get_or ks 1 0 ∷ get_or ks 2 0 ∷ get_or ks 3 0 ∷ get_or ks 4 0 ∷ get_or ks 5 0 ∷ get_or ks 6 0 ∷ get_or ks 7 0 ∷ []) x bs) (eight fs long)
    ∙ ap (λ x. packed (get_or ks 0 0 ∷ get_or ks 1 0 ∷ get_or ks 2 0 ∷ get_or ks 3 0 ∷ get_or ks 4 0 ∷ get_or ks 5 0 ∷ get_or ks 6 0 ∷ get_or ks 7 0 ∷ []) (get_or fs 0 0 ∷ get_or fs 1 0 ∷ get_or fs 2 0 ∷ get_or fs 3 0 ∷ get_or fs 4 0 ∷ get_or fs 5 0 ∷ get_or fs 6 0 ∷ get_or fs 7 0 ∷ []) x) (eight bs long_backs) in
    let unit : ℕ → List ℕ = λ k. packed_unit (get_or ks k 0) (get_or fs k 0) (get_or bs k 0) in
    second ∙ ap (λ x. t ++ x) back ∙ ap (λ x. x ++ (((unit 4 ++ unit 5) ++ unit 6) ++ unit 7)) (first ∙ ap (λ x. s ++ x) lead) ∙ in-turn s (unit 0) (unit 1) (unit 2) (unit 3) (unit 4) (unit 5) (unit 6) (unit 7) ∙ ap (λ x. s ++ x) (sym all)

-- If the bytes are those of units that are characters, what is written is their UTF-8.
pub packed-encoded : (us fs bs s : List ℕ) → length fs ≡ length us → length bs ≡ length us → ((k : ℕ) → k < length us → IsLead (get_or us k 0) (get_or fs k 0)) → ((k : ℕ) → k < length us → get_or bs k 0 ≡ 0x80 + get_or us k 0 % 0x40)
    → ((k : ℕ) → k < length us → get_or us k 0 < 0x10000) → ((k : ℕ) → k < length us → 0xd800 ≤ get_or us k 0 → 0xe000 ≤ get_or us k 0) → EncodedUnits us s (s ++ packed us fs bs)
packed-encoded [] fs bs s long long_backs lead back below plain = subst (λ t. EncodedUnits [] s t) (sym (append-nil s)) (units-none s)
packed-encoded (u ∷ us) [] bs s long long_backs lead back below plain = absurd (omega arith)
packed-encoded (u ∷ us) (f ∷ fs) [] s long long_backs lead back below plain = absurd (omega arith)
packed-encoded (u ∷ us) (f ∷ fs) (b ∷ bs) s long long_backs lead back below plain =
    let one = units-one u s (s ++ packed_unit u f b) (below 0 (omega arith)) (plain 0 (omega arith)) (ap (λ x. s ++ x) (packed-unit u f b (lead 0 (omega arith)) (back 0 (omega arith)) (below 0 (omega arith)))) in
    let rest = packed-encoded us fs bs (s ++ packed_unit u f b) (omega arith) (omega arith) (λ k within. lead (suc k) (omega arith)) (λ k within. back (suc k) (omega arith)) (λ k within. below (suc k) (omega arith)) (λ k within. plain (suc k) (omega arith)) in
    subst (λ t. EncodedUnits (u ∷ us) s t) (append_assoc s (packed_unit u f b) (packed us fs bs)) (units-then one rest)

-- Eight units that are characters, in SIMD lanes.
pub packed-of-units : (ls us fs bs s : List ℕ) → ls ≡ us → length us ≡ 8 → length fs ≡ 8 → length bs ≡ 8 → ((k : ℕ) → k < 8 → IsLead (get_or ls k 0) (get_or fs k 0)) → ((k : ℕ) → k < 8 → get_or bs k 0 ≡ 0x80 + get_or ls k 0 % 0x40)
    → ((k : ℕ) → get_or us k 0 < 0x10000) → ((k : ℕ) → k < 8 → 0xd800 ≤ get_or us k 0 → 0xe000 ≤ get_or us k 0) → EncodedUnits us s (s ++ packed ls fs bs)
packed-of-units ls us fs bs s same long long_prefixes long_backs lead back below plain =
    subst (λ ks. EncodedUnits us s (s ++ packed ks fs bs)) (sym same)
    (packed-encoded us fs bs s (omega arith) (omega arith) (λ k within. subst (λ ks. IsLead (get_or ks k 0) (get_or fs k 0)) same (lead k (omega arith))) (λ k within. subst (λ ks. get_or bs k 0 ≡ 0x80 + get_or ks k 0 % 0x40) same (back k (omega arith))) (λ k within. below k) (λ k within. plain k (omega arith)))
