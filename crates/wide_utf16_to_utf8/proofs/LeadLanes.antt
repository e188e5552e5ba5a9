-- The first bytes of units, computed in SIMD lanes.
use Rattle.std.proofs.Common.{◌≡◌, ℕ, zero, suc, ◌+◌, ◌-◌, ◌*◌, ◌/◌, ◌%◌, ◌^◌, ◌<◌, ◌≤◌, Bool, cond, ltb, eqb, inl, inr, List, [], ◌∷◌, length, get_or, map, replicate, refl, sym, ◌∙◌, subst, arith}
use Rattle.std.proofs.lemmas.Bool.{cases_lt, lt-ltb, le-ltb}
use Rattle.std.proofs.lemmas.Bool.Decides.{eqb_tells}
use Rattle.std.proofs.lemmas.Simd.{Each1-get_or}
use lib.Lanes.{Each1, sel_l, top, zip2}
use Rattle.wide_utf16_to_utf8.specs.Encoded.{IsLead, high_word, low_word}
use Rattle.wide_utf16_to_utf8.specs.PairedText.{IsPairedLead, paired_key}
use Rattle.wide_utf16_to_utf8.specs.ThreeBytes.{mask_of}

abbrev below : ℕ → List ℕ → ℕ → List Bool
below n us x = map (top 15) (zip2 (λ a b. cond (ltb a b) (2 ^ 16 - 1) 0) us (replicate n x))

abbrev equal : ℕ → List ℕ → ℕ → List Bool
equal n us x = map (top 15) (zip2 (λ a b. cond (eqb a b) (2 ^ 16 - 1) 0) us (replicate n x))

abbrev sums : List ℕ → List ℕ → List ℕ
sums = zip2 (λ a b. (a + b) % 2 ^ 16)

abbrev times : ℕ → List ℕ → ℕ → List ℕ
times n us x = zip2 (λ a b. (a * b) % 2 ^ 16) us (replicate n x)

abbrev rests : ℕ → List ℕ → ℕ → List ℕ
rests n us x = zip2 (λ a b. a % b) us (replicate n x)

abbrev overs : ℕ → List ℕ → ℕ → List ℕ
overs n us x = zip2 (λ a b. a / b) us (replicate n x)

-- ---- characters

abbrev pub narrow-leads : ℕ → List ℕ → List ℕ
narrow-leads n us = sel_l (below n us 0x80) us (sums (sums (replicate n 0x80c0) (overs n us 0x40)) (times n (rests n us 0x40) 0x100))

abbrev narrow-lead : ℕ → ℕ
narrow-lead u = cond (top 15 (cond (ltb u 0x80) (2 ^ 16 - 1) 0)) u (((0x80c0 + u / 0x40) % 2 ^ 16 + u % 0x40 * 0x100 % 2 ^ 16) % 2 ^ 16)

narrow-leads-at : (n : ℕ) (us : List ℕ) (k : ℕ) → length us ≡ n → k < n → get_or (narrow-leads n us) k 0 ≡ narrow-lead (get_or us k 0)
narrow-leads-at zero us k long within = absurd (omega arith)
narrow-leads-at (suc n) [] k long within = absurd (omega arith)
narrow-leads-at (suc n) (u ∷ us) zero long within = refl
narrow-leads-at (suc n) (u ∷ us) (suc k) long within = narrow-leads-at n us k (omega arith) (omega arith)

narrow-lead-is : (u : ℕ) → u < 0x800 → IsLead u (narrow-lead u)
narrow-lead-is u below = elim (cases_lt u 0x80) [
  | inl low ↦ rw (lt-ltb u 0x80 low) (record { one = λ h. refl; two = λ from h. absurd (omega arith); three = λ from. absurd (omega arith) })
  | inr from ↦ rw (le-ltb u 0x80 from) (record { one = λ h. absurd (omega arith); two = λ f h. omega arith; three = λ f. absurd (omega arith) })
]

pub narrow-leads-are : (us : List ℕ) → length us ≡ 8 → (k : ℕ) → k < 8 → get_or us k 0 < 0x800 → IsLead (get_or us k 0) (get_or (narrow-leads 8 us) k 0)
narrow-leads-are us long k within low = subst (λ f. IsLead (get_or us k 0) f) (sym (narrow-leads-at 8 us k long within)) (narrow-lead-is (get_or us k 0) low)

-- The first two bytes of units, given those of the units below 0x800.
abbrev pub leads : ℕ → List ℕ → List ℕ → List ℕ
leads n us narrow = sel_l (below n us 0x800) narrow (sums (sums (replicate n 0x80e0) (overs n us 0x1000)) (times n (rests n (overs n us 0x40) 0x40) 0x100))

abbrev lead : ℕ → ℕ → ℕ
lead u narrow = cond (top 15 (cond (ltb u 0x800) (2 ^ 16 - 1) 0)) narrow (((0x80e0 + u / 0x1000) % 2 ^ 16 + u / 0x40 % 0x40 * 0x100 % 2 ^ 16) % 2 ^ 16)

leads-at : (n : ℕ) (us narrow : List ℕ) (k : ℕ) → length us ≡ n → length narrow ≡ n → k < n → get_or (leads n us narrow) k 0 ≡ lead (get_or us k 0) (get_or narrow k 0)
leads-at zero us narrow k long long_narrow within = absurd (omega arith)
leads-at (suc n) [] narrow k long long_narrow within = absurd (omega arith)
leads-at (suc n) (u ∷ us) [] k long long_narrow within = absurd (omega arith)
leads-at (suc n) (u ∷ us) (f ∷ narrow) zero long long_narrow within = refl
leads-at (suc n) (u ∷ us) (f ∷ narrow) (suc k) long long_narrow within = leads-at n us narrow k (omega arith) (omega arith) (omega arith)

lead-is : (u narrow : ℕ) → u < 0x10000 → (u < 0x800 → IsLead u narrow) → IsLead u (lead u narrow)
lead-is u narrow fits is = elim (cases_lt u 0x800) [
  | inl low ↦ rw (lt-ltb u 0x800 low) (is low)
  | inr from ↦ rw (le-ltb u 0x800 from) (record { one = λ h. absurd (omega arith); two = λ f h. absurd (omega arith); three = λ f. omega arith })
]

pub leads-are : (us narrow : List ℕ) → length us ≡ 8 → length narrow ≡ 8 → Each1 (λ x. x < 65536) us → ((k : ℕ) → k < 8 → get_or us k 0 < 0x800 → IsLead (get_or us k 0) (get_or narrow k 0))
    → (k : ℕ) → k < 8 → IsLead (get_or us k 0) (get_or (leads 8 us narrow) k 0)
leads-are us narrow long long_narrow fits is k within =
    subst (λ f. IsLead (get_or us k 0) f) (sym (leads-at 8 us narrow k long long_narrow within)) (lead-is (get_or us k 0) (get_or narrow k 0) (Each1-get_or (λ x. x < 65536) us k 0 (omega arith) fits) (is k within))

abbrev pub backs : ℕ → List ℕ → List ℕ
backs n us = sums (replicate n 0x80) (rests n us 0x40)

backs-at : (n : ℕ) (us : List ℕ) (k : ℕ) → length us ≡ n → k < n → get_or (backs n us) k 0 ≡ (0x80 + get_or us k 0 % 0x40) % 2 ^ 16
backs-at zero us k long within = absurd (omega arith)
backs-at (suc n) [] k long within = absurd (omega arith)
backs-at (suc n) (u ∷ us) zero long within = refl
backs-at (suc n) (u ∷ us) (suc k) long within = backs-at n us k (omega arith) (omega arith)

pub backs-are : (us : List ℕ) → length us ≡ 8 → (k : ℕ) → k < 8 → get_or (backs 8 us) k 0 ≡ 0x80 + get_or us k 0 % 0x40
backs-are us long k within = omega (arith, backs-at 8 us k long within)

-- ---- surrogates of pairs

abbrev pub half-leads : ℕ → List ℕ → List ℕ → List ℕ → List ℕ
half-leads n bs us ws =
    let highs = sums (rests n us 0x400) (replicate n 0x40) in
    let second = times n (rests n (overs n highs 4) 0x40) 0x100 in
    let high = sums (sums (replicate n 0x80f0) (overs n highs 0x100)) second in
    let third = times n (rests n bs 4) 0x10 in
    let middle = rests n (overs n us 0x40) 0x10 in
    let last = times n (rests n us 0x40) 0x100 in
    let low = sums (sums (sums (replicate n 0x8080) third) middle) last in
    sel_l (equal n (overs n us 0x800) 27) (sel_l (equal n (overs n us 0x400) 55) low high) ws

abbrev half-lead : ℕ → ℕ → ℕ → ℕ
half-lead b u w =
    let highs : ℕ = (u % 0x400 + 0x40) % 2 ^ 16 in
    let second : ℕ = highs / 4 % 0x40 * 0x100 % 2 ^ 16 in
    let high : ℕ = ((0x80f0 + highs / 0x100) % 2 ^ 16 + second) % 2 ^ 16 in
    let third : ℕ = b % 4 * 0x10 % 2 ^ 16 in
    let last : ℕ = u % 0x40 * 0x100 % 2 ^ 16 in
    let low : ℕ = (((0x8080 + third) % 2 ^ 16 + u / 0x40 % 0x10) % 2 ^ 16 + last) % 2 ^ 16 in
    cond (top 15 (cond (eqb (u / 0x800) 27) (2 ^ 16 - 1) 0)) (cond (top 15 (cond (eqb (u / 0x400) 55) (2 ^ 16 - 1) 0)) low high) w

half-leads-at : (n : ℕ) (bs us ws : List ℕ) (k : ℕ) → length bs ≡ n → length us ≡ n → length ws ≡ n → k < n → get_or (half-leads n bs us ws) k 0 ≡ half-lead (get_or bs k 0) (get_or us k 0) (get_or ws k 0)
half-leads-at zero bs us ws k b u w within = absurd (omega arith)
half-leads-at (suc n) [] us ws k b u w within = absurd (omega arith)
half-leads-at (suc n) (x ∷ bs) [] ws k b u w within = absurd (omega arith)
half-leads-at (suc n) (x ∷ bs) (y ∷ us) [] k b u w within = absurd (omega arith)
half-leads-at (suc n) (x ∷ bs) (y ∷ us) (z ∷ ws) zero b u w within = refl
half-leads-at (suc n) (x ∷ bs) (y ∷ us) (z ∷ ws) (suc k) b u w within = half-leads-at n bs us ws k (omega arith) (omega arith) (omega arith) (omega arith)

half-lead-plain : (b u w : ℕ) → (0xd800 ≤ u → 0xe000 ≤ u) → half-lead b u w ≡ w
half-lead-plain b u w plain = elim (eqb_tells (u / 0x800) 27) [
  | inl reported ↦ (let same = reported.1 in absurd (omega (arith, same, plain (omega (arith, same)))))
  | inr reported ↦ (let apart = reported.0 in rw apart refl)
]

half-lead-high : (b u w : ℕ) → 0xd800 ≤ u → u < 0xdc00 → half-lead b u w ≡ high_word u
half-lead-high b u w from to =
    let half : u / 0x800 ≡ 27 = omega arith in
    let not_low : u / 0x400 ≡ 54 = omega arith in
    rw (half, not_low) (omega arith)

half-lead-low : (b u w : ℕ) → 0xdc00 ≤ u → u < 0xe000 → half-lead b u w ≡ low_word b u
half-lead-low b u w from to =
    let half : u / 0x800 ≡ 27 = omega arith in
    let is_low : u / 0x400 ≡ 55 = omega arith in
    rw (half, is_low) (omega arith)

half-lead-is : (b u w : ℕ) → IsLead u w → IsPairedLead b u (half-lead b u w)
half-lead-is b u w f = record {
  one = λ h. half-lead-plain b u w (λ from. absurd (omega arith)) ∙ f.one h;
  two = λ g h. half-lead-plain b u w (λ from. absurd (omega arith)) ∙ f.two g h;
  three = λ g plain. half-lead-plain b u w plain ∙ f.three g;
  high = λ g h. half-lead-high b u w g h;
  low = λ g h. half-lead-low b u w g h;
}

pub half-leads-are : (bs us ws : List ℕ) → length bs ≡ 8 → length us ≡ 8 → length ws ≡ 8 → ((k : ℕ) → k < 8 → IsLead (get_or us k 0) (get_or ws k 0)) → (k : ℕ) → k < 8 → IsPairedLead (get_or bs k 0) (get_or us k 0) (get_or (half-leads 8 bs us ws) k 0)
half-leads-are bs us ws b u w all k within = subst (λ f. IsPairedLead (get_or bs k 0) (get_or us k 0) f) (sym (half-leads-at 8 bs us ws k b u w within)) (half-lead-is (get_or bs k 0) (get_or us k 0) (get_or ws k 0) (all k within))

abbrev pub half-keys : ℕ → List ℕ → List ℕ
half-keys n us = sel_l (equal n (overs n us 0x800) 27) (replicate n 0x80) us

pub half-keys-at : (n : ℕ) (us : List ℕ) (k : ℕ) → length us ≡ n → k < n → get_or (half-keys n us) k 0 ≡ paired_key (get_or us k 0)
half-keys-at zero us k long within = absurd (omega arith)
half-keys-at (suc n) [] k long within = absurd (omega arith)
half-keys-at (suc n) (u ∷ us) zero long within = key u
  where
    key : (u : ℕ) → cond (top 15 (cond (eqb (u / 0x800) 27) (2 ^ 16 - 1) 0)) 0x80 u ≡ paired_key u
    key u = elim (eqb_tells (u / 0x800) 27) [ inl reported ↦ rw reported.0 refl | inr reported ↦ rw reported.0 refl ]
half-keys-at (suc n) (u ∷ us) (suc k) long within = half-keys-at n us k (omega arith) (omega arith)

-- ---- the bits of the row numbers

abbrev pub masks : ℕ → List ℕ → List ℕ
masks n us = sel_l (below n us 0x80) (replicate n 0xffff) (sel_l (below n us 0x800) (replicate n 0xff00) (replicate n 0))

pub masks-at : (n : ℕ) (us : List ℕ) (k : ℕ) → length us ≡ n → k < n → get_or (masks n us) k 0 ≡ mask_of (get_or us k 0)
masks-at zero us k long within = absurd (omega arith)
masks-at (suc n) [] k long within = absurd (omega arith)
masks-at (suc n) (u ∷ us) zero long within = mask u
  where
    mask : (u : ℕ) → cond (top 15 (cond (ltb u 0x80) (2 ^ 16 - 1) 0)) 0xffff (cond (top 15 (cond (ltb u 0x800) (2 ^ 16 - 1) 0)) 0xff00 0) ≡ mask_of u
    mask u = elim (cases_lt u 0x80) [
      | inl low ↦ rw (lt-ltb u 0x80 low) refl
      | inr from ↦ elim (cases_lt u 0x800) [
        | inl low ↦ rw (le-ltb u 0x80 from, lt-ltb u 0x800 low) refl
        | inr from_800 ↦ rw (le-ltb u 0x80 from, le-ltb u 0x800 from_800) refl
      ]
    ]
masks-at (suc n) (u ∷ us) (suc k) long within = masks-at n us k (omega arith) (omega arith)
