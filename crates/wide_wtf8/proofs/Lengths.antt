-- The length of units in WTF-8, from the units.
use Rattle.std.proofs.Common.{◌≡◌, ℕ, zero, suc, ◌+◌, ◌<◌, ◌≤◌, ◌^◌, List, [], ◌∷◌, inl, inr, true, false, length, length-append, drop, refl, sym, ap, ◌∙◌, subst, arith, get_or, Fits, w16}
use Rattle.std.specs.Prelude.{◌&&◌, map, slice_index}
use Rattle.std.specs.List.{All}
use Rattle.std.proofs.lemmas.Bool.{cases_Bool, cases_lt}
use Rattle.std.proofs.lemmas.Bool.Decides.{nat_tests}
use Rattle.std.proofs.lemmas.List.Elements.{All-cons, All-nil, All-tail}
use Rattle.wide_forms.specs.EncodingForm.{Utf16, IsCodeUnit, code_units, IsFault}
use Rattle.wide_forms.specs.Items.{items}
use Rattle.wide_forms.specs.Searches.{is_high, is_low, is_surrogate}
use Rattle.wide_forms.specs.Segmentation.{Item, Char, Fault, units_of}
use Rattle.wide_forms.specs.Utf8.{utf8, utf8_bytes}
use Rattle.wide_forms.specs.Laws.Chains.{Chain, MayPrecede}
use Rattle.wide_forms.specs.Laws.Forms.{one_unit, pair16, ranges, scalar_from, two_units, high_of, low_of}
use Rattle.wide_forms.specs.Laws.Items.{items-chain, units_of-items}
use Rattle.wide_unit.specs.CodePoints.{code_of}
use Rattle.wide_schemes.specs.Wtf8.{wtf8}
use Rattle.wide_schemes.specs.Wtf8Laws.{IsOfUnits, after, fault-unit, of_items}
use Rattle.wide_wtf8.specs.Lengths.{more_of, more_of_first}

-- ---- the count, unit by unit and block by block

pub more-next : (us : List ℕ) (k : ℕ) → k < length us → more_of_first (k + 1) us ≡ more_of_first k us + more_of (get_or us k 0) (get_or us (k + 1) 0)
more-next [] k within = absurd (omega (arith, within))
more-next (u ∷ []) zero within = omega arith
more-next (u ∷ v ∷ us) zero within = omega arith
more-next (u ∷ us) (suc k) within =
    let swap : suc k + 1 ≡ suc (k + 1) = omega arith in
    ap (λ n. more_of_first n (u ∷ us)) swap ∙ omega (arith, more-next us k (omega (arith, within))) ∙ ap (λ n. more_of_first (suc k) (u ∷ us) + more_of (get_or us k 0) (get_or (u ∷ us) n 0)) (sym swap)

none-more : (n : ℕ) → more_of_first n [] ≡ 0
none-more zero = refl
none-more (suc n) = refl

pub more-on : (us : List ℕ) (m n : ℕ) → more_of_first (m + n) us ≡ more_of_first m us + more_of_first n (drop m us)
more-on us zero n =
    let e : zero + n ≡ n = omega arith in
    let f : more_of_first n us ≡ 0 + more_of_first n us = omega arith in
    ap (λ k. more_of_first k us) e ∙ f
more-on [] (suc m) n = omega (arith, none-more (suc m + n), none-more n)
more-on (u ∷ us) (suc m) n =
    let swap : suc m + n ≡ suc (m + n) = omega arith in
    ap (λ k. more_of_first k (u ∷ us)) swap ∙ omega (arith, more-on us m n)

-- ---- the count of all units

len-single : (c v : ℕ) → c < 0x1_0000 → is_surrogate c ≡ false → length (utf8_bytes c) ≡ 1 + more_of c v
unfolding utf8_bytes
len-single c v below apart = grind (arith, nat_tests)

len-half : (u v : ℕ) → is_surrogate u ≡ true → (is_high u && is_low v) ≡ false → length (utf8_bytes u) ≡ 1 + more_of u v
unfolding utf8_bytes
len-half u v half apart = grind (arith, nat_tests)

len-pair : (c v : ℕ) → 0x1_0000 ≤ c → c < 0x11_0000 → length (utf8_bytes c) ≡ 2 + (more_of (high_of c) (low_of c) + more_of (low_of c) v)
unfolding utf8_bytes
len-pair c v from below = grind (arith, nat_tests)

-- How many bytes more than one all units have.
abbrev more_of_all : List ℕ → ℕ
more_of_all us = more_of_first (length us) us

fault-half : (u : ℕ) → u < 2 ^ 16 → IsFault Utf16 u → is_surrogate u ≡ true
fault-half u below fault = elim (cases_Bool (is_surrogate u)) [
  | inl half ↦ half
  | inr other ↦ absurd (fault u (scalar_from u (record { below = omega (arith, below); no_surrogate = λ from. grind (arith, nat_tests) })) (one_unit u below))
]

-- What precedes units of items is no first half before a second one.
apart-first : (u : ℕ) (is : List Item) → MayPrecede Utf16 (Fault u) is → Chain Utf16 is → (is_high u && is_low (slice_index (units_of Utf16 is) 0)) ≡ false
apart-first u [] may chain = grind (arith, nat_tests)
apart-first u (Char c ∷ is) may chain =
    let r = ranges c chain.0 in
    elim (cases_lt c 0x1_0000) [
      | inl below ↦ (let apart = r.no_surrogate in rw (one_unit c below) (grind (arith, nat_tests)))
      | inr from ↦ (let below = r.below in rw (two_units c from) (grind (arith, nat_tests)))
    ]
apart-first u (Fault l ∷ is) may chain = elim (cases_Bool (is_high u && is_low l)) [
  | inl pair ↦ absurd (may (pair16 u l (record { from = grind (arith, nat_tests); to = grind (arith, nat_tests) }) (record { from = grind (arith, nat_tests); to = grind (arith, nat_tests) })))
  | inr other ↦ other
]

len-items : (is : List Item) → Chain Utf16 is → IsOfUnits is → length (utf8 (map code_of is)) ≡ length (units_of Utf16 is) + more_of_all (units_of Utf16 is)
len-items [] chain units = refl
len-items (Char c ∷ is) chain units =
    let r = ranges c chain.0 in
    let more = len-items is chain.2 (after (code_units Utf16 c) (units_of Utf16 is) units) in
    let rest = units_of Utf16 is in
    let long = length-append (utf8_bytes c) (utf8 (map code_of is)) in
    elim (cases_lt c 0x1_0000) [
      | inl below ↦
          (let apart = r.no_surrogate in
          let single : is_surrogate c ≡ false = grind (arith, nat_tests) in
          rw (one_unit c below) (omega (arith, more, long, len-single c (slice_index rest 0) below single)))
      | inr from ↦ rw (two_units c from) (omega (arith, more, long, len-pair c (slice_index rest 0) from r.below))
    ]
len-items (Fault u ∷ is) chain units =
    let more = len-items is chain.2 (All-tail (IsCodeUnit Utf16) u (units_of Utf16 is) units) in
    let half = fault-half u (fault-unit u is units) chain.0 in
    omega (arith, more, length-append (utf8_bytes u) (utf8 (map code_of is)), len-half u (slice_index (units_of Utf16 is) 0) half (apart-first u is chain.1 chain.2))

pub len-wtf8 : (us : List ℕ) → All (IsCodeUnit Utf16) us → length (wtf8 us) ≡ length us + more_of_first (length us) us
len-wtf8 us units =
    subst (λ vs. length (wtf8 us) ≡ length vs + more_of_first (length vs) vs) (units_of-items Utf16 us) (len-items (items Utf16 us) (items-chain Utf16 us) (of_items us units))

-- Elements of 16 bits are units.
pub all-units : (us : List ℕ) → ((i : ℕ) → Fits w16 (get_or us i 0)) → All (IsCodeUnit Utf16) us
all-units [] fits = All-nil (IsCodeUnit Utf16)
all-units (u ∷ us) fits = All-cons (IsCodeUnit Utf16) u us (fits 0).fits (all-units us (λ i. fits (suc i)))

-- No unit follows the last one.
past : (us : List ℕ) (k : ℕ) → length us ≤ k → get_or us k 0 ≡ 0
past [] k end = refl
past (u ∷ us) zero end = absurd (omega (arith, end))
past (u ∷ us) (suc k) end = past us k (omega (arith, end))

-- All units: those before an index, those up to the last one, and the last one.
pub len-parts : (us : List ℕ) (at m : ℕ) → All (IsCodeUnit Utf16) us → at + m + 1 ≡ length us → length (wtf8 us) ≡ length us + more_of_first at us + more_of_first m (drop at us) + more_of (get_or us (at + m) 0) 0
len-parts us at m units end =
    let last : more_of_first (at + m + 1) us ≡ more_of_first (at + m) us + more_of (get_or us (at + m) 0) 0 =
    more-next us (at + m) (omega (arith, end)) ∙ ap (λ v. more_of_first (at + m) us + more_of (get_or us (at + m) 0) v) (past us (at + m + 1) (omega (arith, end))) in
    omega (arith, len-wtf8 us units, ap (λ n. more_of_first n us) end, last, more-on us at m)
