-- The upper six bits of units, compared in SIMD lanes.
use Rattle.std.proofs.Common.{◌≡◌, ℕ, zero, suc, ◌+◌, ◌-◌, ◌*◌, ◌/◌, ◌%◌, ◌^◌, ◌<◌, ◌≤◌, Bool, true, false, cond, eqb, inl, inr, List, [], ◌∷◌, length, get_or, map, replicate, take, drop, w16, refl, sym, ap, ◌∙◌, arith, length-take}
use Rattle.std.proofs.lemmas.Bool.{eqb-true}
use Rattle.std.proofs.lemmas.List.{get_or-take}
use Rattle.std.proofs.lemmas.Bool.Decides.{eqb_tells}
use Rattle.std.proofs.lemmas.Simd.{bitmask_splat, zip2_splat, length-zip2}
use lib.Lanes.{mask_l, top, zip2}
use Rattle.wide_utf16_to_utf8.specs.Encoded.{ArePaired, top_bits}

mask-tops : (t n : ℕ) (us : List ℕ) → n ≤ length us → mask_l (map (λ x. eqb x t) (map (λ u. u / 0x400) (take n us))) ≡ top_bits t n us
mask-tops t zero us long = refl
mask-tops t (suc n) [] long = absurd (omega arith)
mask-tops t (suc n) (u ∷ us) long = ap (λ m. cond {A = ℕ} (eqb (u / 0x400) t) 1 0 + 2 * m) (mask-tops t n us (omega arith))

pub tops-are : (t : ℕ) (us : List ℕ) → 16 ≤ length us → mask_l (map (top 15) (zip2 (λ a b. cond (eqb a b) (2 ^ 16 - 1) 0) (zip2 (λ a b. a / b) (take 16 us) (replicate 16 0x400)) (replicate 16 t))) % 2 ^ 64 ≡ top_bits t 16 us
tops-are t us long =
    let lead : length (take 16 us) ≡ 16 = omega (arith, length-take 16 us, long) in
    let tops = zip2 (λ a b. a / b) (take 16 us) (replicate 16 0x400) in
    let all : length tops ≡ 16 = length-zip2 (λ a b. a / b) (take 16 us) (replicate 16 0x400) lead ∙ lead in
    bitmask_splat w16 (λ a b. eqb a b) tops 16 t all (omega arith) ∙ ap (λ xs. mask_l (map (λ x. eqb x t) xs)) (zip2_splat (λ a b. a / b) (take 16 us) 16 0x400 lead) ∙ mask-tops t 16 us long

same-bit : (a b : Bool) (m n : ℕ) → cond {A = ℕ} a 1 0 + 2 * m ≡ cond {A = ℕ} b 1 0 + 2 * n → (a ≡ b) × (m ≡ n)
same-bit true true m n e = (refl, omega arith)
same-bit false false m n e = (refl, omega arith)
same-bit true false m n e = absurd (omega arith)
same-bit false true m n e = absurd (omega arith)

same-tops : (s t n : ℕ) (us vs : List ℕ) → n ≤ length us → n ≤ length vs → top_bits s n us ≡ top_bits t n vs → (k : ℕ) → k < n → eqb (get_or us k 0 / 0x400) s ≡ eqb (get_or vs k 0 / 0x400) t
same-tops s t zero us vs long_us long_vs e k within = absurd (omega arith)
same-tops s t (suc n) [] vs long_us long_vs e k within = absurd (omega arith)
same-tops s t (suc n) (u ∷ us) [] long_us long_vs e k within = absurd (omega arith)
same-tops s t (suc n) (u ∷ us) (v ∷ vs) long_us long_vs e zero within = (same-bit (eqb (u / 0x400) s) (eqb (v / 0x400) t) (top_bits s n us) (top_bits t n vs) e).0
same-tops s t (suc n) (u ∷ us) (v ∷ vs) long_us long_vs e (suc k) within = same-tops s t n us vs (omega arith) (omega arith) (same-bit (eqb (u / 0x400) s) (eqb (v / 0x400) t) (top_bits s n us) (top_bits t n vs) e).1 k (omega arith)

paired-by : (u v : ℕ) → eqb (u / 0x400) 54 ≡ eqb (v / 0x400) 55 → ArePaired u v
paired-by u v e = elim (eqb_tells (u / 0x400) 54) [
  | inl high ↦ elim (eqb_tells (v / 0x400) 55) [
    | inl low ↦ (let h = high.1 in let l = low.1 in record { low = λ from to. (omega (arith, l), omega (arith, l)); high = λ from to. (omega (arith, h), omega (arith, h)) })
    | inr not_low ↦ absurd (differ (sym high.0 ∙ e ∙ not_low.0))
  ]
  | inr other ↦ elim (eqb_tells (v / 0x400) 55) [
    | inl low ↦ absurd (differ (sym low.0 ∙ sym e ∙ other.0))
    | inr not_low ↦ (let h = other.1 in let l = not_low.1 in record { low = λ from to. absurd (h (omega arith)); high = λ from to. absurd (l (omega arith)) })
  ]
]
  where
    differ : true ≡ false → ⊥
    differ same = absurd cc

pub pairs-by-tops : (us : List ℕ) → length us ≡ 17 → top_bits 54 16 us ≡ top_bits 55 16 (drop 1 us) → (k : ℕ) → k < 16 → ArePaired (get_or us k 0) (get_or us (k + 1) 0)
pairs-by-tops [] long e k within = absurd (omega arith)
pairs-by-tops (u ∷ us) long e k within =
    let next : k + 1 ≡ suc k = omega arith in
    let beyond : get_or us k 0 ≡ get_or (u ∷ us) (k + 1) 0 = ap (λ i. get_or (u ∷ us) i 0) (sym next) in
    paired-by (get_or (u ∷ us) k 0) (get_or (u ∷ us) (k + 1) 0) (same-tops 54 55 16 (u ∷ us) us (omega arith) (omega arith) e k within ∙ ap (λ v. eqb (v / 0x400) 55) beyond)

-- ---- the units at even indices

abbrev pub double : ℕ → ℕ
double zero = 0
double (suc n) = suc (suc (double n))

abbrev others : ℕ → ℕ
others zero = 0
others (suc n) = 1 + 4 * others n

others-high : (n : ℕ) (us : List ℕ) → double n ≤ length us → top_bits 54 (double n) us ≡ others n → (k : ℕ) → k < n → get_or us (2 * k) 0 / 0x400 ≡ 54
others-high zero us long e k within = absurd (omega arith)
others-high (suc n) [] long e k within = absurd (omega arith)
others-high (suc n) (u ∷ []) long e k within = absurd (omega arith)
others-high (suc n) (u ∷ v ∷ us) long e zero within =
    eqb-true (u / 0x400) 54 (same-bit (eqb (u / 0x400) 54) true (cond {A = ℕ} (eqb (v / 0x400) 54) 1 0 + 2 * top_bits 54 (double n) us) (0 + 2 * others n) (e ∙ omega arith)).0
others-high (suc n) (u ∷ v ∷ us) long e (suc k) within =
    let m = top_bits 54 (double n) us in
    let next : 2 * suc k ≡ suc (suc (2 * k)) = omega arith in
    let first = same-bit (eqb (u / 0x400) 54) true (cond {A = ℕ} (eqb (v / 0x400) 54) 1 0 + 2 * m) (0 + 2 * others n) (e ∙ omega arith) in
    let rest = (same-bit (eqb (v / 0x400) 54) false m (others n) first.1).1 in
    ap (λ i. get_or (u ∷ v ∷ us) i 0 / 0x400) next ∙ others-high n us (omega arith) rest k (omega arith)

pub pairs-high : (us : List ℕ) → length us ≡ 16 → top_bits 54 16 us ≡ 0x5555 → (k : ℕ) → k < 8 → get_or us (2 * k) 0 / 0x400 ≡ 54
pairs-high us long e = others-high 8 us (omega arith) e

pub lows-beyond : (bs : List ℕ) → ((k : ℕ) → k < 16 → ArePaired (get_or bs k 0) (get_or bs (k + 1) 0)) → ((k : ℕ) → k < 8 → get_or (take 16 bs) (2 * k) 0 / 0x400 ≡ 54) → (k : ℕ) → k < 8 → get_or (take 16 bs) (2 * k + 1) 0 / 0x400 ≡ 55
lows-beyond bs pairs highs k within =
    let high : get_or bs (2 * k) 0 / 0x400 ≡ 54 = ap (λ u. u / 0x400) (sym (get_or-take 16 bs (2 * k) 0 (omega arith))) ∙ highs k within in
    let low = (pairs (2 * k) (omega arith)).low (omega (arith, high)) (omega (arith, high)) in
    ap (λ u. u / 0x400) (get_or-take 16 bs (2 * k + 1) 0 (omega arith)) ∙ omega (arith, low.0, low.1)
