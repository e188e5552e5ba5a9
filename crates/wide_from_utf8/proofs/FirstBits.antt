-- Which of sixteen SIMD lanes is the first that passes a test, and what holds for the lanes before it.
use Rattle.std.proofs.Common.{◌≡◌, ◌≢◌, ℕ, ◌%◌, ◌/◌, ◌*◌, ◌^◌, ◌-◌, ◌<◌, ◌≤◌, Bool, true, false, cond, not, eqb, List, length, get_or, map, replicate, bit_and, sym, ap, ◌∙◌, subst, arith, w8, take, length-take, get_or-take}
use Rattle.std.specs.List.{prefix_len}
use Rattle.std.proofs.lemmas.Bool.{eqb-true, leb-false, leb-true, not-false, not-true}
use Rattle.std.proofs.lemmas.List.{map-id, get_or-replicate}
use Rattle.std.proofs.lemmas.List.Sums.{prefix_len-le-length, prefix_len_passes, prefix_len_stops}
use Rattle.std.proofs.lemmas.Simd.{get_or-zip2, leading_from_mask_l, length-zip2, mask_l-mod, tops_compared, trailing_mask_l}
use Rattle.std.proofs.lemmas.Nat.Bits.{and_high_mask}
use lib.Count.{count_trailing_zeros}
use lib.Dec.{leb}
use lib.Lanes.{mask_l, top, zip2}
use Rattle.wide_from_utf8.specs.Decoded.{LeadsThree}

-- One bit for each lane, set if the lane passes.
abbrev pub bits_of : (ℕ → ℕ → Bool) → List ℕ → List ℕ → ℕ
bits_of test xs ys = mask_l (map (top 7) (zip2 (λ a b. cond (test a b) (2 ^ 8 - 1) 0) xs ys)) % 2 ^ 64

module _ (test : ℕ → ℕ → Bool) (xs ys : List ℕ) (long : length xs ≡ 16) (as_long : length ys ≡ 16) where
  abbrev tests : List Bool
  tests = zip2 test xs ys

  tests-long : length (zip2 test xs ys) ≡ 16
  tests-long = length-zip2 test xs ys (long ∙ sym as_long) ∙ long

  mask-is : mask_l (map (λ b. b) (zip2 test xs ys)) ≡ mask_l (zip2 test xs ys)
  mask-is = ap mask_l (map-id (zip2 test xs ys))

  bits-are : bits_of test xs ys ≡ mask_l (map (λ b. b) (zip2 test xs ys))
  bits-are = ap (λ ts. mask_l ts % 2 ^ 64) (tops_compared w8 test xs ys) ∙ mask_l-mod (zip2 test xs ys) 64 (omega (arith, tests-long)) ∙ sym mask-is

  fails : (n k : ℕ) → n ≡ prefix_len (λ b. not b) (zip2 test xs ys) → k < n → k < 16 → test (get_or xs k 0) (get_or ys k 0) ≡ false
  fails n k is before within =
      let failed = not-true _ (prefix_len_passes (λ b. not b) (zip2 test xs ys) k false (subst (λ m. k < m) is before)) in
      sym (get_or-zip2 test xs ys k 0 0 false (omega (arith, long)) (omega (arith, as_long))) ∙ failed

  pub none-passes : bits_of test xs ys ≡ 0 → (k : ℕ) → k < 16 → test (get_or xs k 0) (get_or ys k 0) ≡ false
  none-passes none k within = fails 16 k (sym (leading_from_mask_l (λ b. b) (zip2 test xs ys) (sym bits-are ∙ none) ∙ tests-long)) within within

  module _ (some : bits_of test xs ys ≢ 0) where
    first-is : count_trailing_zeros 64 (bits_of test xs ys) ≡ prefix_len (λ b. not b) (zip2 test xs ys)
    first-is = ap (count_trailing_zeros 64) bits-are ∙ trailing_mask_l (λ b. b) 64 (zip2 test xs ys) (omega (arith, tests-long)) (omega (arith, some, bits-are))

    pub first-within : count_trailing_zeros 64 (bits_of test xs ys) ≤ 16
    first-within = omega (arith, first-is, tests-long, prefix_len-le-length (λ b. not b) (zip2 test xs ys))

    pub none-before : (k : ℕ) → k < count_trailing_zeros 64 (bits_of test xs ys) → test (get_or xs k 0) (get_or ys k 0) ≡ false
    none-before k before = fails _ k first-is before (omega (arith, before, first-within))

    pub passes-there : count_trailing_zeros 64 (bits_of test xs ys) < 16 → test (get_or xs (count_trailing_zeros 64 (bits_of test xs ys)) 0) (get_or ys (count_trailing_zeros 64 (bits_of test xs ys)) 0) ≡ true
    passes-there less =
        let offset = count_trailing_zeros 64 (bits_of test xs ys) in
        let stops = not-false _ (prefix_len_stops (λ b. not b) (zip2 test xs ys) false (omega (arith, less, first-is, tests-long))) in
        sym (get_or-zip2 test xs ys offset 0 0 false (omega (arith, long, less)) (omega (arith, as_long, less))) ∙ ap (λ k. get_or (zip2 test xs ys) k false) first-is ∙ stops

-- ---- bytes that are not below a bound

module _ (bound : ℕ) (bs : List ℕ) (k : ℕ) (within : k < 16) where
  bound-is : get_or (replicate 16 bound) k 0 ≡ bound
  bound-is = get_or-replicate 16 k bound 0 within

  pub low-byte : leb (get_or (replicate 16 bound) k 0) (get_or (take 16 bs) k 0) ≡ false → get_or bs k 0 < bound
  low-byte failed =
      let byte : get_or (take 16 bs) k 0 ≡ get_or bs k 0 = get_or-take 16 bs k 0 within in
      let less = leb-false (get_or (replicate 16 bound) k 0) (get_or (take 16 bs) k 0) failed in
      omega (arith, bound-is, byte, less)

  pub high-byte : leb (get_or (replicate 16 bound) k 0) (get_or (take 16 bs) k 0) ≡ true → bound ≤ get_or bs k 0
  high-byte passed =
      let byte : get_or (take 16 bs) k 0 ≡ get_or bs k 0 = get_or-take 16 bs k 0 within in
      let from = leb-true (get_or (replicate 16 bound) k 0) (get_or (take 16 bs) k 0) passed in
      omega (arith, bound-is, byte, from)

-- ---- bytes whose masked bits differ

pub same-bits : (bs masks wanted : List ℕ) (k : ℕ) → k < 16 → 16 ≤ length bs → length masks ≡ 16 → not (eqb (get_or (zip2 bit_and (take 16 bs) masks) k 0) (get_or wanted k 0)) ≡ false → bit_and (get_or bs k 0) (get_or masks k 0) ≡ get_or wanted k 0
same-bits bs masks wanted k within long as_long failed =
    let byte : get_or (take 16 bs) k 0 ≡ get_or bs k 0 = get_or-take 16 bs k 0 within in
    let masked = get_or-zip2 bit_and (take 16 bs) masks k 0 0 0 (omega (arith, length-take 16 bs)) (omega arith) in
    ap (λ b. bit_and b (get_or masks k 0)) (sym byte) ∙ sym masked ∙ eqb-true _ _ (not-false _ failed)

-- ---- leading bytes, by those bits

pub leads-three : (b mask bits : ℕ) → b < 2 ^ 8 → mask ≡ 0xF0 → bits ≡ 0xE0 → bit_and b mask ≡ bits → LeadsThree b
leads-three b mask bits fits is_mask is_bits same =
    let high : bit_and b 0xF0 ≡ b / 2 ^ 4 * 2 ^ 4 = and_high_mask 8 4 (omega arith) b fits in
    let masked : bit_and b 0xF0 ≡ 0xE0 = ap (bit_and b) (sym is_mask) ∙ same ∙ is_bits in
    (omega (arith, high, masked), omega (arith, high, masked))

pub leads-four : (b mask bits : ℕ) → b < 2 ^ 8 → mask ≡ 0xF0 → bits ≡ 0xF0 → bit_and b mask ≡ bits → 0xF0 ≤ b
leads-four b mask bits fits is_mask is_bits same =
    let high : bit_and b 0xF0 ≡ b / 2 ^ 4 * 2 ^ 4 = and_high_mask 8 4 (omega arith) b fits in
    let masked : bit_and b 0xF0 ≡ 0xF0 = ap (bit_and b) (sym is_mask) ∙ same ∙ is_bits in
    omega (arith, high, masked)
