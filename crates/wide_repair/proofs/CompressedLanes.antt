-- SIMD lanes that are compressed by a table of byte indices.
use Rattle.std.proofs.Common.{◌≡◌, ℕ, zero, suc, ◌+◌, ◌*◌, ◌/◌, ◌%◌, ◌<◌, ◌≤◌, ◌&&◌, Bool, T, cond, ltb, ltb→lt, inl, inr, List, [], ◌∷◌, length, get_or, map, take, drop, w8, refl, sym, ap, ◌∙◌, subst, arith}
use Rattle.std.specs.Int.RustNames.{count_ones}
use Rattle.std.specs.List.{range_with_len}
use Rattle.std.proofs.Math.Facts.{eqb_yes}
use Rattle.std.proofs.lemmas.Bool.{cases_lt, lt-ltb, le-ltb}
use Rattle.std.proofs.lemmas.List.{get_or-map, length-map, length-take-le, take-map}
use Rattle.std.proofs.lemmas.Simd.{Each1-from_get_or, Each1-get_or, SwzOk, SwzOk-from_below, get_or-swz_l_below, get_or_wider, length-swz_l, swz_l}
use lib.Dec.{eqb}
use lib.Ieee.Fits.{and_l, and_r}
use lib.Lanes.{Each1, all_below, digits_l, number_l}
use Rattle.wide_repair.specs.Compressed.{compressed_lanes}
use Rattle.wide_repair.specs.declared.compression.TheConstants.{COMPRESS_SHUFFLES}
use Rattle.wide_forms.proofs.Tables.{eight, every, every-at, high-byte, is-same, low-byte, ones-few, same-is, same-lists}

-- ---- the table

-- The lanes of byte indices, two indices for each lane.
abbrev paired_text : List ℕ → List ℕ
paired_text [] = []
paired_text (p ∷ []) = []
paired_text (p ∷ q ∷ ps) = (p / 2) ∷ paired_text ps

-- The byte indices of lanes, two for each lane.
abbrev doubles : List ℕ → List ℕ
doubles [] = []
doubles (p ∷ ps) = (2 * p) ∷ (2 * p + 1) ∷ doubles ps

-- The positions of the bits that are set, counted from i on.
abbrev positions : ℕ → ℕ → ℕ → List ℕ
positions zero i bits = []
positions (suc n) i bits = cond (ltb 0 (bits % 2)) (i ∷ positions n (i + 1) (bits / 2)) (positions n (i + 1) (bits / 2))

abbrev row : ℕ → List ℕ
row n = take 16 (get_or COMPRESS_SHUFFLES n [])

-- The byte indices of a row are those of eight lanes, and begin with the lanes whose bits are set in its number.
abbrev is-paired : ℕ → Bool
is-paired n = is-same (row n) (doubles (paired_text (row n)))

abbrev is-low : ℕ → Bool
is-low n = all_below 8 (paired_text (row n))

abbrev is-long : ℕ → Bool
is-long n = eqb (length (paired_text (row n))) 8

abbrev is-first : ℕ → Bool
is-first n = is-same (take (count_ones n) (paired_text (row n))) (positions 8 0 n)

unfoldable is-compressed : ℕ → Bool
is-compressed n = is-paired n && (is-low n && (is-long n && is-first n))

all-compressed : T (every is-compressed 256)
unfolding every is-compressed count_ones
all-compressed = tt

each-part : (a b c d : Bool) → T (a && (b && (c && d))) → T a × T b × T c × T d
each-part a b c d h =
    let after_a = and_r a (b && (c && d)) h in
    let after_b = and_r b (c && d) after_a in
    (and_l a (b && (c && d)) h, and_l b (c && d) after_a, and_l c d after_b, and_r c d after_b)

each-low : (js : List ℕ) → T (all_below 8 js) → Each1 (λ j. j < 8) js
each-low [] h = tt
each-low (j ∷ js) h = (ltb→lt j 8 (and_l _ _ h), each-low js (and_r (ltb j 8) _ h))

module _ (n : ℕ) (within : n < 256) where
  valid : T (is-paired n) × T (is-low n) × T (is-long n) × T (is-first n)
  unfolding is-compressed
  valid = each-part (is-paired n) (is-low n) (is-long n) (is-first n) (every-at is-compressed 256 n within all-compressed)

  shuffle-are : row n ≡ doubles (paired_text (row n))
  shuffle-are = same-is _ _ valid.0

  lanes-low : Each1 (λ p. p < 8) (paired_text (row n))
  lanes-low = each-low (paired_text (row n)) valid.1

  lanes-long : length (paired_text (row n)) ≡ 8
  lanes-long = eqb_yes valid.2

  first-are : take (count_ones n) (paired_text (row n)) ≡ positions 8 0 n
  first-are = same-is _ _ valid.3

-- ---- the byte indices of lanes

length-doubles : (ps : List ℕ) → length (doubles ps) ≡ 2 * length ps
length-doubles [] = refl
length-doubles (p ∷ ps) = omega (arith, length-doubles ps)

doubles-even : (ps : List ℕ) (m : ℕ) → m < length ps → get_or (doubles ps) (2 * m) 0 ≡ 2 * get_or ps m 0
doubles-even [] m within = absurd (omega arith)
doubles-even (p ∷ ps) zero within = refl
doubles-even (p ∷ ps) (suc m) within = (let next : 2 * suc m ≡ suc (suc (2 * m)) = omega arith in ap (λ i. get_or (doubles (p ∷ ps)) i 0) next ∙ doubles-even ps m (omega arith))

doubles-odd : (ps : List ℕ) (m : ℕ) → m < length ps → get_or (doubles ps) (2 * m + 1) 0 ≡ 2 * get_or ps m 0 + 1
doubles-odd [] m within = absurd (omega arith)
doubles-odd (p ∷ ps) zero within = refl
doubles-odd (p ∷ ps) (suc m) within = (let next : 2 * suc m + 1 ≡ suc (suc (2 * m + 1)) = omega arith in ap (λ i. get_or (doubles (p ∷ ps)) i 0) next ∙ doubles-odd ps m (omega arith))

doubles-low : (ps : List ℕ) → Each1 (λ p. p < 8) ps → Each1 (λ p. p < 16) (doubles ps)
doubles-low [] low = tt
doubles-low (p ∷ ps) low = (let first = low.0 in (omega (arith, first), (omega (arith, first), doubles-low ps low.1)))

digits-low : (n x : ℕ) → Each1 (λ d. d < 256) (digits_l 256 n x)
digits-low zero x = tt
digits-low (suc n) x = (omega arith, digits-low n (x / 256))

two-at : (k : ℕ) (zs : List ℕ) → k + 2 ≤ length zs → take 2 (drop k zs) ≡ get_or zs k 0 ∷ get_or zs (k + 1) 0 ∷ []
two-at k [] long = absurd (omega arith)
two-at zero (y ∷ []) long = absurd (omega arith)
two-at zero (y ∷ z ∷ zs) long = refl
two-at (suc k) (z ∷ zs) long = (let next : suc k + 1 ≡ suc (k + 1) = omega arith in two-at k zs (omega arith) ∙ ap (λ i. get_or zs k 0 ∷ get_or (z ∷ zs) i 0 ∷ []) (sym next))

module _ (xs : List ℕ) (long : length xs ≡ 8) (each : Each1 (λ x. x < 65536) xs) where
  abbrev bytes : List ℕ
  bytes = digits_l 256 16 (number_l 65536 xs)

  module _ (ps : List ℕ) (as_long : length ps ≡ 8) (low : Each1 (λ p. p < 8) ps) where
    byte-at : (i : ℕ) → i < 16 → get_or (swz_l w8 16 bytes 0 (doubles ps)) i 0 ≡ get_or bytes (get_or (doubles ps) i 0) 0
    byte-at i within =
        let all = length-doubles ps in
        let offset : ℕ = get_or (doubles ps) i 0 in
        let here : 16 * ((0 + i) / 16) + offset ≡ offset = omega arith in
        get_or-swz_l_below w8 16 bytes 0 (doubles ps) i (omega (arith, all, as_long)) (Each1-get_or (λ p. p < 16) (doubles ps) i 0 (omega (arith, all, as_long)) (doubles-low ps low)) ∙ ap (λ j. get_or bytes j 0) here

    moved-long : length (swz_l w8 16 bytes 0 (doubles ps)) ≡ 16
    moved-long = omega (arith, length-swz_l w8 16 bytes 0 (doubles ps), length-doubles ps, as_long)

    moved-low : Each1 (λ b. b < 256) (swz_l w8 16 bytes 0 (doubles ps))
    moved-low = Each1-from_get_or (λ b. b < 256) _ 0 (λ i inside.
        (let within : i < 16 = omega (arith, moved-long) in
        subst (λ b. b < 256) (sym (byte-at i within)) (Each1-get_or (λ b. b < 256) bytes (get_or (doubles ps) i 0) 0 (Each1-get_or (λ p. p < 16) (doubles ps) i 0 (omega (arith, length-doubles ps, as_long)) (doubles-low ps low)) (digits-low 16 _))))

    moved-at : (m : ℕ) → m < 8 → get_or (digits_l 65536 8 (number_l 256 (swz_l w8 16 bytes 0 (doubles ps)))) m 0 ≡ get_or xs (get_or ps m 0) 0
    moved-at m within =
        let moved = swz_l w8 16 bytes 0 (doubles ps) in
        let p : ℕ = get_or ps m 0 in
        let below : p < 8 = Each1-get_or (λ p. p < 8) ps m 0 (omega (arith, as_long)) low in
        let fits : get_or xs p 0 < 65536 = Each1-get_or (λ x. x < 65536) xs p 0 (omega (arith, long)) each in
        let first : get_or moved (2 * m) 0 ≡ get_or xs p 0 % 0x100 = byte-at (2 * m) (omega arith) ∙ ap (λ j. get_or bytes j 0) (doubles-even ps m (omega (arith, as_long))) ∙ low-byte xs long each p below in
        let second : get_or moved (2 * m + 1) 0 ≡ get_or xs p 0 / 0x100 = byte-at (2 * m + 1) (omega arith) ∙ ap (λ j. get_or bytes j 0) (doubles-odd ps m (omega (arith, as_long))) ∙ high-byte xs long each p below fits in
        let whole = get_or_wider 256 2 65536 8 moved m refl moved-low within in
        let both = ap (number_l 256) (two-at (2 * m) moved (omega (arith, moved-long))) in
        let sum : get_or moved (2 * m) 0 + 256 * (get_or moved (2 * m + 1) 0 + 256 * 0) ≡ get_or xs p 0 = omega (arith, first, second) in
        whole ∙ both ∙ sum

    moved-are : digits_l 65536 8 (number_l 256 (swz_l w8 16 bytes 0 (doubles ps))) ≡ map (λ p. get_or xs p 0) ps
    moved-are =
        let ys = digits_l 65536 8 (number_l 256 (swz_l w8 16 bytes 0 (doubles ps))) in
        let all : length ys ≡ 8 = refl in
        let others : length (map (λ p. get_or xs p 0) ps) ≡ 8 = length-map ps (λ p. get_or xs p 0) ∙ as_long in
        same-lists ys _ (all ∙ sym others) (λ k within. moved-at k (omega (arith, within, all)) ∙ sym (get_or-map (λ p. get_or xs p 0) ps k 0 0 (omega (arith, within, all, as_long))))

-- ---- the compressed lanes

positions-compressed : (f : ℕ → ℕ) (m i bits : ℕ) → map f (positions m i bits) ≡ compressed_lanes bits (map f (range_with_len i m))
positions-compressed f zero i bits = refl
positions-compressed f (suc m) i bits = elim (cases_lt 0 (bits % 2)) [
  | inl set ↦ rw (lt-ltb 0 (bits % 2) set) (ap (λ zs. f i ∷ zs) (positions-compressed f m (i + 1) (bits / 2)))
  | inr clear ↦ rw (le-ltb 0 (bits % 2) clear) (positions-compressed f m (i + 1) (bits / 2))
]

module _ (n : ℕ) (within : n < 256) where
  pub compressed-shuffle : SwzOk w8 16 16 0 (take 16 (get_or COMPRESS_SHUFFLES n []))
  compressed-shuffle =
      let ps = paired_text (row n) in
      subst (λ js. SwzOk w8 16 16 0 js) (sym (shuffle-are n within)) (SwzOk-from_below w8 16 1 16 0 (doubles ps) refl (omega (arith, length-doubles ps, lanes-long n within)) (doubles-low ps (lanes-low n within)))

  module _ (xs : List ℕ) (long : length xs ≡ 8) (each : Each1 (λ x. x < 65536) xs) where
    compressed-are : digits_l 65536 8 (number_l 256 (swz_l w8 16 (bytes xs long each) 0 (row n))) ≡ map (λ p. get_or xs p 0) (paired_text (row n))
    compressed-are = ap (λ js. digits_l 65536 8 (number_l 256 (swz_l w8 16 (bytes xs long each) 0 js))) (shuffle-are n within) ∙ moved-are xs long each (paired_text (row n)) (lanes-long n within) (lanes-low n within)

    pub compressed-lead : take (count_ones n) (digits_l 65536 8 (number_l 256 (swz_l w8 16 (digits_l 256 16 (number_l 65536 xs)) 0 (take 16 (get_or COMPRESS_SHUFFLES n []))))) ≡ compressed_lanes n xs
    compressed-lead =
        let f : ℕ → ℕ = λ p. get_or xs p 0 in
        ap (take (count_ones n)) compressed-are ∙ take-map f (count_ones n) (paired_text (row n)) ∙ ap (map f) (first-are n within) ∙ positions-compressed f 8 0 n ∙ ap (compressed_lanes n) (sym (eight xs long))

    pub compressed-count : count_ones n ≡ length (compressed_lanes n xs)
    compressed-count = sym (length-take-le (count_ones n) (digits_l 65536 8 (number_l 256 (swz_l w8 16 (digits_l 256 16 (number_l 65536 xs)) 0 (row n)))) (ones-few n within)) ∙ ap length compressed-lead

    pub compressed-within : (k : ℕ) → k < 8 → (j : ℕ) × (j < 8) × (get_or (digits_l 65536 8 (number_l 256 (swz_l w8 16 (digits_l 256 16 (number_l 65536 xs)) 0 (take 16 (get_or COMPRESS_SHUFFLES n []))))) k 0 ≡ get_or xs j 0)
    compressed-within k inside =
        let ps = paired_text (row n) in (
          get_or ps k 0,
          Each1-get_or (λ p. p < 8) ps k 0 (omega (arith, inside, lanes-long n within)) (lanes-low n within),
          ap (λ ys. get_or ys k 0) compressed-are ∙ get_or-map (λ p. get_or xs p 0) ps k 0 0 (omega (arith, inside, lanes-long n within)),
        )
