-- The scalar values at adjacent bytes, computed in SIMD lanes.
use Rattle.std.proofs.Common.{◌≡◌, ℕ, zero, suc, ◌+◌, ◌-◌, ◌*◌, ◌/◌, ◌%◌, ◌^◌, ◌<◌, ◌≤◌, Bool, cond, ltb, not, eqb, inl, inr, List, [], ◌∷◌, length, get_or, map, replicate, take, drop, bit_and, w8, refl, sym, ap, ◌∙◌, arith, length-take}
use Rattle.std.proofs.lemmas.Bool.{cases_lt, lt-ltb, le-ltb}
use Rattle.std.proofs.lemmas.Bool.Decides.{eqb_tells}
use Rattle.std.proofs.lemmas.Nat.Bits.{and_high_mask}
use Rattle.std.proofs.lemmas.Simd.{bitmask_splat, length-zip2, zip2_splat}
use lib.Lanes.{mask_l, sel_l, top, zip2}
use Rattle.wide_from_utf8.specs.Mixed.{begins, code_of, codes_at, lead_bits}
use Rattle.wide_from_utf8.proofs.MixedPrefixes.{begins-low, begins-lead, begins-trails}

-- ---- the scalar values

abbrev below : ℕ → List ℕ → List ℕ → List Bool
below n xs ys = map (top 15) (zip2 (λ a b. cond (ltb a b) (2 ^ 16 - 1) 0) xs ys)

abbrev sums : List ℕ → List ℕ → List ℕ
sums = zip2 (λ a b. (a + b) % 2 ^ 16)

abbrev scaled : ℕ → ℕ → List ℕ → List ℕ
scaled n x xs = zip2 (λ a b. (a * b) % 2 ^ 16) xs (replicate n x)

abbrev rests : ℕ → ℕ → List ℕ → List ℕ
rests n x xs = zip2 (λ a b. a % b) xs (replicate n x)

abbrev wide : List ℕ → List ℕ
wide xs = map (λ x. x) xs

abbrev pub lanes : ℕ → List ℕ → List ℕ → List ℕ → List ℕ
lanes n xs ys zs =
    let f = wide xs in
    let s = rests n 0x40 (wide ys) in
    let t = rests n 0x40 (wide zs) in
    sel_l (below n f (replicate n 0xE0)) (sel_l (below n f (replicate n 0x80)) f (sums (scaled n 0x40 (rests n 0x20 f)) s)) (sums (sums (scaled n 0x1000 f) (scaled n 0x40 s)) t)

abbrev lane : ℕ → ℕ → ℕ → ℕ
lane a b c =
    let s : ℕ = b % 0x40 in
    let t : ℕ = c % 0x40 in
    cond (top 15 (cond (ltb a 0xE0) (2 ^ 16 - 1) 0)) (cond (top 15 (cond (ltb a 0x80) (2 ^ 16 - 1) 0)) a ((a % 0x20 * 0x40 % 2 ^ 16 + s) % 2 ^ 16)) (((a * 0x1000 % 2 ^ 16 + s * 0x40 % 2 ^ 16) % 2 ^ 16 + t) % 2 ^ 16)

lane-is : (a b c : ℕ) → lane a b c ≡ code_of a b c
lane-is a b c = elim (cases_lt a 0x80) [
  | inl low ↦ rw (lt-ltb a 0x80 low, lt-ltb a 0xE0 (omega arith)) refl
  | inr from ↦ elim (cases_lt a 0xE0) [
    | inl low ↦ rw (le-ltb a 0x80 from, lt-ltb a 0xE0 low) (omega arith)
    | inr from_e0 ↦ rw (le-ltb a 0x80 from, le-ltb a 0xE0 from_e0) (omega arith)
  ]
]

cons-is : (x y : ℕ) (xs ys : List ℕ) → x ≡ y → xs ≡ ys → x ∷ xs ≡ y ∷ ys
cons-is x y xs ys e f = cc

pub lanes-are : (n : ℕ) (bs : List ℕ) → n + 2 ≤ length bs → lanes n (take n bs) (take n (drop 1 bs)) (take n (drop 2 bs)) ≡ codes_at n bs
lanes-are zero bs long = refl
lanes-are (suc n) [] long = absurd (omega arith)
lanes-are (suc n) (a ∷ []) long = absurd (omega arith)
lanes-are (suc n) (a ∷ b ∷ []) long = absurd (omega arith)
lanes-are (suc n) (a ∷ b ∷ c ∷ bs) long = cons-is _ _ _ _ (lane-is a b c) (lanes-are n (b ∷ c ∷ bs) (omega arith))

-- ---- the leading bytes

lead-test : (b : ℕ) → b < 256 → not (eqb (bit_and b 0xC0) 0x80) ≡ begins b
lead-test b fits =
    let high : bit_and b 0xC0 ≡ b / 2 ^ 6 * 2 ^ 6 = and_high_mask 8 6 (omega arith) b fits in
    elim (eqb_tells (bit_and b 0xC0) 0x80) [
      | inl reported ↦ (let same = reported.1 in ap not reported.0 ∙ sym (begins-trails b (omega (arith, high, same), omega (arith, high, same))))
      | inr reported ↦ (let apart = reported.1 in ap not reported.0 ∙ sym (elim (cases_lt b 0x80) [ inl low ↦ begins-low b low | inr from ↦ begins-lead b (omega (arith, high, apart)) ]))
    ]

mask-leads : (n : ℕ) (bs : List ℕ) → n ≤ length bs → ((k : ℕ) → get_or bs k 0 < 256) → mask_l (map (λ x. not (eqb x 0x80)) (map (λ b. bit_and b 0xC0) (take n bs))) ≡ lead_bits n bs
mask-leads zero bs long fits = refl
mask-leads (suc n) [] long fits = refl
mask-leads (suc n) (b ∷ bs) long fits =
    let y = mask_l (map (λ x. not (eqb x 0x80)) (map (λ b. bit_and b 0xC0) (take n bs))) in
    ap (λ t. cond {A = ℕ} t 1 0 + 2 * y) (lead-test b (fits 0)) ∙ ap (λ z. cond {A = ℕ} (begins b) 1 0 + 2 * z) (mask-leads n bs (omega arith) (λ k. fits (suc k)))

pub leads-are : (bs : List ℕ) → 16 ≤ length bs → ((k : ℕ) → get_or bs k 0 < 256)
    → mask_l (map (top 7) (zip2 (λ a b. cond (not (eqb a b)) (2 ^ 8 - 1) 0) (zip2 bit_and (take 16 bs) (replicate 16 0xC0)) (replicate 16 0x80))) % 2 ^ 64 ≡ lead_bits 16 bs
leads-are bs long fits =
    let prefix : length (take 16 bs) ≡ 16 = omega (arith, length-take 16 bs, long) in
    let high = zip2 bit_and (take 16 bs) (replicate 16 0xC0) in
    let all : length high ≡ 16 = length-zip2 bit_and (take 16 bs) (replicate 16 0xC0) prefix ∙ prefix in
    bitmask_splat w8 (λ a b. not (eqb a b)) high 16 0x80 all (omega arith) ∙ ap (λ xs. mask_l (map (λ x. not (eqb x 0x80)) xs)) (zip2_splat bit_and (take 16 bs) 16 0xC0 prefix) ∙ mask-leads 16 bs long fits
