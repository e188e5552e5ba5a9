-- Units below 0x800 in two bytes for each, and the bytes of those that are used.
use Rattle.std.proofs.Common.{◌≡◌, ℕ, zero, suc, ◌+◌, ◌-◌, ◌*◌, ◌/◌, ◌%◌, ◌<◌, ◌≤◌, ◌^◌, Bool, true, false, T, cond, inl, inr, ltb, map, replicate, w16, append_assoc, List, [], ◌∷◌, ◌++◌, length, get_or, set, take, drop, w8, refl, sym, ap, ◌∙◌, subst, arith, length-drop}
use Rattle.std.specs.Int.RustNames.{count_ones}
use Rattle.std.proofs.lemmas.Bool.{cases_lt, lt-ltb, le-ltb}
use Rattle.std.proofs.lemmas.List.{append-nil, get_or-set_other, get_or-set_same, take_all, take-append-drop, take-map}
use Rattle.std.proofs.lemmas.Simd.{swz_l, bitmask_splat, get_or_narrower, Each1-from_get_or}
use borrow.Rule.Slice.PartMut.{put_mid}
use lib.Lanes.{put_chunk, Each1, mask_l, top, zip2, digits_l, number_l}
use Rattle.wide_forms.specs.Utf8.{utf8_bytes}
use Rattle.wide_forms.specs.Laws.Utf8.{one_byte, two_bytes}
use Rattle.wide_utf16_to_utf8.specs.Encoded.{EncodedUnits, IsLead}
use Rattle.wide_utf16_to_utf8.specs.TwoBytes.{IsPair, below_bits, compressed, compress}
use Rattle.wide_utf16_to_utf8.specs.declared.two_bytes_rows.TheConstants.{SHUFFLES}
use Rattle.wide_utf16_to_utf8.proofs.Stores.{list2}
use Rattle.wide_utf16_to_utf8.proofs.Tables.{are-rows, is-row, row-picks, row-stored}
use Rattle.wide_forms.proofs.Tables.{every, every-at, is-same, same-is}
use Rattle.wide_utf16_to_utf8.proofs.UnitEncodings.{units-none, units-one, units-then}

-- ---- the table

-- The indices of the bytes that are used, from the index i on: one for each bit that is set, and two for each other.
abbrev spots : ℕ → ℕ → ℕ → List ℕ
spots zero i bits = []
spots (suc n) i bits = cond (ltb 0 (bits % 2)) (i ∷ spots n (i + 2) (bits / 2)) (i ∷ (i + 1) ∷ spots n (i + 2) (bits / 2))

unfoldable is-compressed : ℕ → Bool
is-compressed n = is-same (take (16 - count_ones n) (take 16 (get_or SHUFFLES n []))) (spots 8 0 n)

all-compressed : T (every is-compressed 256)
unfolding every is-compressed count_ones
all-compressed = tt

pub shuffle-valid : T (are-rows SHUFFLES)
unfolding are-rows is-row
shuffle-valid = tt

row-spots : (n : ℕ) → n < 256 → take (16 - count_ones n) (take 16 (get_or SHUFFLES n [])) ≡ spots 8 0 n
unfolding is-compressed
row-spots n within = same-is _ _ (every-at is-compressed 256 n within all-compressed)

spots-next : (n i : ℕ) (b : Bool) (rest : ℕ) → spots (suc n) i (cond b 1 0 + 2 * rest) ≡ cond b (i ∷ spots n (i + 2) rest) (i ∷ (i + 1) ∷ spots n (i + 2) rest)
spots-next n i true rest =
    let one : (1 + 2 * rest) % 2 ≡ 1 = omega arith in
    let half : (1 + 2 * rest) / 2 ≡ rest = omega arith in
    rw (one, half) refl
spots-next n i false rest =
    let none : (0 + 2 * rest) % 2 ≡ 0 = omega arith in
    let half : (0 + 2 * rest) / 2 ≡ rest = omega arith in
    rw (none, half) refl

compressed-next : (pairs : List ℕ) (i : ℕ) (b : Bool) (ps bytes : List ℕ) → map (λ p. get_or pairs p 0) ps ≡ bytes → map (λ p. get_or pairs p 0) (cond b (i ∷ ps) (i ∷ (i + 1) ∷ ps)) ≡ compress b i pairs ++ bytes
compressed-next pairs i true ps bytes is = ap (λ xs. get_or pairs i 0 ∷ xs) is
compressed-next pairs i false ps bytes is = ap (λ xs. get_or pairs i 0 ∷ get_or pairs (i + 1) 0 ∷ xs) is

spots-compressed : (pairs us : List ℕ) (i : ℕ) → map (λ p. get_or pairs p 0) (spots (length us) i (below_bits 0x80 us)) ≡ compressed us i pairs
spots-compressed pairs [] i = refl
spots-compressed pairs (u ∷ us) i =
    let bits = below_bits 0x80 us in
    ap (map (λ p. get_or pairs p 0)) (spots-next (length us) i (ltb u 0x80) bits) ∙ compressed-next pairs i (ltb u 0x80) (spots (length us) (i + 2) bits) (compressed us (i + 2) pairs) (spots-compressed pairs us (i + 2))

module _ (n : ℕ) (within : n < 256) where
  picked : (pairs us : List ℕ) → length us ≡ 8 → n ≡ below_bits 0x80 us → take (16 - count_ones n) (swz_l w8 16 pairs 0 (take 16 (get_or SHUFFLES n []))) ≡ compressed us 0 pairs
  picked pairs us long is =
      let f : ℕ → ℕ = λ p. get_or pairs p 0 in
      ap (take (16 - count_ones n)) (row-picks SHUFFLES shuffle-valid n within pairs) ∙ take-map f (16 - count_ones n) (take 16 (get_or SHUFFLES n [])) ∙ ap (map f) (row-spots n within)
      ∙ ap (λ m. map f (spots m 0 n)) (sym long) ∙ ap (λ m. map f (spots (length us) 0 m)) is ∙ spots-compressed pairs us 0

  pub pairs-stored : (xs pairs us : List ℕ) (at : ℕ) → length us ≡ 8 → n ≡ below_bits 0x80 us → at + 16 ≤ length xs
      → take (at + (16 - count_ones n)) (put_mid at (at + 16 - at) xs (put_chunk 0 (take (at + 16 - at) (drop at xs)) (swz_l w8 16 pairs 0 (take 16 (get_or SHUFFLES n []))))) ≡ take at xs ++ compressed us 0 pairs
  pairs-stored xs pairs us at long is space = row-stored SHUFFLES shuffle-valid n within xs pairs (compressed us 0 pairs) at (16 - count_ones n) (omega arith) space (picked pairs us long is)

-- ---- which units are below a bound

pub bit-small : (b : Bool) → cond {A = ℕ} b 1 0 ≤ 1
bit-small true = omega arith
bit-small false = omega arith

mask-below : (bound : ℕ) (us : List ℕ) → mask_l (map (λ x. ltb x bound) us) ≡ below_bits bound us
mask-below bound [] = refl
mask-below bound (u ∷ us) = ap (λ m. cond {A = ℕ} (ltb u bound) 1 0 + 2 * m) (mask-below bound us)

pub bits-below : (bound : ℕ) (us : List ℕ) → length us ≡ 8 → mask_l (map (top 15) (zip2 (λ a b. cond (ltb a b) (2 ^ 16 - 1) 0) us (replicate 8 bound))) % 2 ^ 64 ≡ below_bits bound us
bits-below bound us long = bitmask_splat w16 (λ a b. ltb a b) us 8 bound long (omega arith) ∙ mask-below bound us

pub below-small : (bound : ℕ) (n : ℕ) (us : List ℕ) → length us ≡ n → below_bits bound us < 2 ^ n
below-small bound zero [] long = omega arith
below-small bound zero (u ∷ us) long = absurd (omega arith)
below-small bound (suc n) [] long = absurd (omega arith)
below-small bound (suc n) (u ∷ us) long = omega (arith, bit-small (ltb u bound), below-small bound n us (omega arith))

-- ---- the bytes of the units

lead-small : (u lead : ℕ) → u < 0x800 → IsLead u lead → lead < 65536
lead-small u lead below f = elim (cases_lt u 0x80) [
  | inl low ↦ omega (arith, f.one low)
  | inr from ↦ omega (arith, f.two from below)
]

pub pair-of : (us fs : List ℕ) (k : ℕ) → k < 8 → length fs ≡ 8 → ((i : ℕ) → i < 8 → get_or us i 0 < 0x800) → ((i : ℕ) → i < 8 → IsLead (get_or us i 0) (get_or fs i 0))
    → IsPair (get_or us k 0) (get_or (digits_l 256 16 (number_l 65536 fs)) (2 * k) 0) (get_or (digits_l 256 16 (number_l 65536 fs)) (2 * k + 1) 0)
pair-of us fs k within long narrow leads =
    let lead = leads k within in
    let each : Each1 (λ x. x < 65536) fs = Each1-from_get_or (λ x. x < 65536) fs 0 (λ i inside. (let here : i < 8 = omega (arith, long) in lead-small (get_or us i 0) (get_or fs i 0) (narrow i here) (leads i here))) in
    let ds = digits_l 256 16 (number_l 65536 fs) in
    let none : 2 * k ≡ 2 * k + 0 = omega arith in
    let first : get_or ds (2 * k) 0 ≡ get_or fs k 0 / 256 ^ 0 % 256 = ap (λ n. get_or ds n 0) none ∙ get_or_narrower 65536 2 256 16 fs k 0 refl each (omega arith) (omega arith) in
    let second : get_or ds (2 * k + 1) 0 ≡ get_or fs k 0 / 256 ^ 1 % 256 = get_or_narrower 65536 2 256 16 fs k 1 refl each (omega arith) (omega arith) in
    record {
      one = λ low. (let f = lead.one low in omega (arith, first, f));
      two = λ from below. (let f = lead.two from below in (omega (arith, first, f), omega (arith, second, f)));
    }

-- ---- the UTF-8 of the units

module _ (pairs : List ℕ) (k u : ℕ) (pair : IsPair u (get_or pairs k 0) (get_or pairs (k + 1) 0)) (below : u < 0x800) where
  compressed-unit : compress (ltb u 0x80) k pairs ≡ utf8_bytes u
  compressed-unit = elim (cases_lt u 0x80) [
    | inl low ↦ rw (lt-ltb u 0x80 low) (ap (λ x. x ∷ []) (pair.one low) ∙ sym (one_byte u low))
    | inr from ↦ rw (le-ltb u 0x80 from) (list2 _ _ _ _ (pair.two from below).0 (pair.two from below).1 ∙ sym (two_bytes u from below))
  ]

-- A property of two numbers holds for equal numbers.
pub same-two : (P : ℕ → ℕ → Type 0) {x y other_x other_y : ℕ} → other_x ≡ x → other_y ≡ y → P x y → P other_x other_y
same-two P {x} {y} {other_x} {other_y} e f is = subst (λ z. P z other_y) (sym e) (subst (λ z. P x z) (sym f) is)

pub compressed-encoded : (pairs us : List ℕ) (i : ℕ) (s : List ℕ) → ((k : ℕ) → k < length us → IsPair (get_or us k 0) (get_or pairs (i + 2 * k) 0) (get_or pairs (i + 2 * k + 1) 0)) → ((k : ℕ) → k < length us → get_or us k 0 < 0x800)
    → EncodedUnits us s (s ++ compressed us i pairs)
compressed-encoded pairs [] i s are narrow = subst (λ t. EncodedUnits [] s t) (sym (append-nil s)) (units-none s)
compressed-encoded pairs (u ∷ us) i s are narrow =
    let low : u < 0x800 = narrow 0 (omega arith) in
    let here : i ≡ i + 2 * 0 = omega arith in
    let here_next : i + 1 ≡ i + 2 * 0 + 1 = omega arith in
    let pair = same-two (IsPair u) (ap (λ n. get_or pairs n 0) here) (ap (λ n. get_or pairs n 0) here_next) (are 0 (omega arith)) in
    let bytes = compress (ltb u 0x80) i pairs in
    let one = units-one u s (s ++ bytes) (omega arith) (λ from. omega arith) (ap (λ x. s ++ x) (compressed-unit pairs i u pair low)) in
    let beyond : (k : ℕ) → k < length us → IsPair (get_or us k 0) (get_or pairs (i + 2 + 2 * k) 0) (get_or pairs (i + 2 + 2 * k + 1) 0) = λ k within.
    (let first : i + 2 + 2 * k ≡ i + 2 * suc k = omega arith in
    let second : i + 2 + 2 * k + 1 ≡ i + 2 * suc k + 1 = omega arith in
    same-two (IsPair _) (ap (λ n. get_or pairs n 0) first) (ap (λ n. get_or pairs n 0) second) (are (suc k) (omega arith))) in
    let rest = compressed-encoded pairs us (i + 2) (s ++ bytes) beyond (λ k within. narrow (suc k) (omega arith)) in
    subst (λ t. EncodedUnits (u ∷ us) s t) (append_assoc s bytes (compressed us (i + 2) pairs)) (units-then one rest)

pub retold : {us s t reported : List ℕ} → reported ≡ t → EncodedUnits us s t → EncodedUnits us s reported
retold {us} {s} same e = subst (λ t. EncodedUnits us s t) (sym same) e

pub two-paired_text : {s t v : List ℕ} (us : List ℕ) → length us ≡ 16 → EncodedUnits (take 8 us) s t → EncodedUnits (take 8 (drop 8 us)) t v → EncodedUnits us s v
two-paired_text {s} {t} {v} us long first second =
    let rest : take 8 (drop 8 us) ≡ drop 8 us = take_all 8 (drop 8 us) (omega (arith, length-drop 8 us)) in
    let all : take 8 us ++ take 8 (drop 8 us) ≡ us = ap (λ xs. take 8 us ++ xs) rest ∙ take-append-drop 8 us in
    subst (λ xs. EncodedUnits xs s v) all (units-then first second)

pub same-more : (xs ys : List ℕ) (k : ℕ) → k < length xs → ((j : ℕ) → j < k → get_or xs j 0 ≡ get_or ys j 0) → (j : ℕ) → j < k + 1 → get_or (set xs k (get_or ys k 0)) j 0 ≡ get_or ys j 0
same-more xs ys k within same j below = elim (cases_lt j k) [
  | inl before ↦ get_or-set_other xs k j (get_or ys k 0) 0 (λ e. omega arith) ∙ same j before
  | inr from ↦ (let here : j ≡ k = omega arith in ap (λ i. get_or (set xs k (get_or ys k 0)) i 0) here ∙ get_or-set_same xs k (get_or ys k 0) 0 within ∙ ap (λ i. get_or ys i 0) (sym here))
]
