-- Units that are repaired by their neighbours are those of lossy text.
use Rattle.std.proofs.Common.{◌≡◌, ℕ, zero, suc, map, ◌-◌, ◌<◌, ◌≤◌, List, [], ◌∷◌, ◌++◌, length, get_or, take, inl, inr, refl, sym, ap, ◌∙◌, arith}
use Rattle.std.specs.Char.{IsScalar}
use Rattle.std.proofs.Math.ListN.{get_or-eq_default}
use Rattle.std.proofs.lemmas.Bool.{cases_lt, cases_Bool}
use Rattle.std.proofs.lemmas.List.{length-map, get_or-map}
use Rattle.std.proofs.lemmas.Grind.{same_number_lists}
use Rattle.std.proofs.lemmas.Slice.{take-put_mid}
use borrow.Rule.Slice.PartMut.{put_mid}
use Rattle.std.proofs.lemmas.Bool.Decides.{nat_tests}
use Rattle.wide_forms.specs.EncodingForm.{Utf16, Utf32, code_units, encode, IsFault}
use Rattle.wide_forms.specs.Segmentation.{Item, Char, Fault, units_of}
use Rattle.wide_forms.specs.Items.{items}
use Rattle.wide_forms.specs.Lossy.{lossy}
use Rattle.wide_forms.specs.Laws.Forms.{ranges, scalar_from, one_unit, two_units, high_of, low_of, pair16}
use Rattle.wide_forms.specs.Laws.Chains.{Chain}
use Rattle.wide_forms.specs.Searches.{is_no_scalar}
use Rattle.wide_forms.specs.Laws.Items.{items-chain, units_of-items, items-nil}
use Rattle.wide_forms.specs.Laws.Utf32.{encode32, items32-char, items32-fault}
use Rattle.wide_repair.specs.Repaired.{repaired_unit, repaired_at, repaired_scalar}

-- ---- indices

pub unit_after_first : (u : ℕ) (us : List ℕ) (n : ℕ) → 1 ≤ n → get_or (u ∷ us) n 0 ≡ get_or us (n - 1) 0
unit_after_first u us zero some = absurd (omega arith)
unit_after_first u us (suc n) some = let same : n ≡ suc n - 1 = omega arith in ap (λ i. get_or us i 0) same

pub none_after_last : (us : List ℕ) (n : ℕ) → length us ≤ n → get_or us n 0 ≡ 0
none_after_last us n over = get_or-eq_default us 0 over

-- ---- one unit

kept-plain : (b u v : ℕ) → (0xD800 ≤ u → 0xE000 ≤ u) → repaired_unit b u v ≡ u
kept-plain b u v plain = grind (arith, nat_tests)

kept-high : (b u v : ℕ) → 0xD800 ≤ u → u < 0xDC00 → 0xDC00 ≤ v → v < 0xE000 → repaired_unit b u v ≡ u
kept-high b u v from to low high = grind (arith, nat_tests)

kept-low : (b u v : ℕ) → 0xDC00 ≤ u → u < 0xE000 → 0xD800 ≤ b → b < 0xDC00 → repaired_unit b u v ≡ u
kept-low b u v from to low high = grind (arith, nat_tests)

-- No high surrogate directly precedes a low one.
record IsApart (b v : ℕ) : Type 0 where
  apart : 0xD800 ≤ b → b < 0xDC00 → 0xDC00 ≤ v → 0xE000 ≤ v

lone-high : (b u v : ℕ) → 0xD800 ≤ u → u < 0xDC00 → (0xDC00 ≤ v → 0xE000 ≤ v) → repaired_unit b u v ≡ 0xFFFD
lone-high b u v from to far = grind (arith, nat_tests)

lone-low : (b u v : ℕ) → 0xDC00 ≤ u → u < 0xE000 → (0xD800 ≤ b → 0xDC00 ≤ b) → repaired_unit b u v ≡ 0xFFFD
lone-low b u v from to far = grind (arith, nat_tests)

-- ---- all units after one

repaired_after : ℕ → List ℕ → List ℕ
repaired_after before [] = []
repaired_after before (u ∷ us) = repaired_unit before u (get_or us 0 0) ∷ repaired_after u us

length-repaired : (b : ℕ) (us : List ℕ) → length (repaired_after b us) ≡ length us
unfolding repaired_after
length-repaired b [] = refl
length-repaired b (u ∷ us) = ap suc (length-repaired u us)

at-repaired : (b : ℕ) (us : List ℕ) (k : ℕ) → k < length us → get_or (repaired_after b us) k 0 ≡ repaired_unit (get_or (b ∷ us) k 0) (get_or us k 0) (get_or us (suc k) 0)
unfolding repaired_after
at-repaired b [] k within = absurd (omega arith)
at-repaired b (u ∷ us) zero within = refl
at-repaired b (u ∷ us) (suc k) within = at-repaired u us k (omega arith)

step-plain : (b c : ℕ) (us rest : List ℕ) → (0xD800 ≤ c → 0xE000 ≤ c) → repaired_after c us ≡ rest → repaired_after b (c ∷ us) ≡ c ∷ rest
unfolding repaired_after
step-plain b c us rest plain e = ap (λ x. x ∷ repaired_after c us) (kept-plain b c (get_or us 0 0) plain) ∙ ap (λ xs. c ∷ xs) e

step-pair : (b h l : ℕ) (us rest : List ℕ) → 0xD800 ≤ h → h < 0xDC00 → 0xDC00 ≤ l → l < 0xE000 → repaired_after l us ≡ rest → repaired_after b (h ∷ l ∷ us) ≡ h ∷ l ∷ rest
unfolding repaired_after
step-pair b h l us rest from to low high e =
    ap (λ x. x ∷ repaired_unit h l (get_or us 0 0) ∷ repaired_after l us) (kept-high b h l from to low high)
    ∙ ap (λ x. h ∷ x ∷ repaired_after l us) (kept-low h l (get_or us 0 0) low high from to) ∙ ap (λ xs. h ∷ l ∷ xs) e

step-high : (b u : ℕ) (us rest : List ℕ) → 0xD800 ≤ u → u < 0xDC00 → IsApart u (get_or us 0 0) → repaired_after u us ≡ rest → repaired_after b (u ∷ us) ≡ 0xFFFD ∷ rest
unfolding repaired_after
step-high b u us rest from to far e = ap (λ x. x ∷ repaired_after u us) (lone-high b u (get_or us 0 0) from to (far.apart from to)) ∙ ap (λ xs. 0xFFFD ∷ xs) e

step-low : (b u : ℕ) (us rest : List ℕ) → 0xDC00 ≤ u → u < 0xE000 → (0xD800 ≤ b → 0xDC00 ≤ b) → repaired_after u us ≡ rest → repaired_after b (u ∷ us) ≡ 0xFFFD ∷ rest
unfolding repaired_after
step-low b u us rest from to far e = ap (λ x. x ∷ repaired_after u us) (lone-low b u (get_or us 0 0) from to far) ∙ ap (λ xs. 0xFFFD ∷ xs) e

-- ---- items

fault-range : (u : ℕ) → u < 0x10000 → IsFault Utf16 u → (0xD800 ≤ u) × (u < 0xE000)
fault-range u below fault =
    elim (cases_lt u 0xD800) [
      | inl low ↦ absurd (fault u (scalar_from u (record { below = omega arith; no_surrogate = λ from. absurd (omega arith) })) (one_unit u below))
      | inr from ↦ elim (cases_lt u 0xE000) [
        | inl to ↦ (from, to)
        | inr past ↦ absurd (fault u (scalar_from u (record { below = omega arith; no_surrogate = λ low. past })) (one_unit u below))
      ]
    ]

head-char : (c : ℕ) (xs : List ℕ) → IsScalar c → 0xDC00 ≤ get_or (code_units Utf16 c ++ xs) 0 0 → 0xE000 ≤ get_or (code_units Utf16 c ++ xs) 0 0
head-char c xs scalar =
    let r = ranges c scalar in
    elim (cases_lt c 0x10000) [
      | inl below ↦ rw (one_unit c below) (λ low. r.no_surrogate (omega arith))
      | inr from ↦ rw (two_units c from) (λ low. absurd (omega (arith, r.below)))
    ]

apart-first : (u : ℕ) (is : List Item) → Chain Utf16 (Fault u ∷ is) → IsApart u (get_or (units_of Utf16 is) 0 0)
apart-first u [] chain = record { apart = λ from to low. absurd (omega arith) }
apart-first u (Char c ∷ is) chain = record { apart = λ from to low. head-char c (units_of Utf16 is) chain.2.0 low }
apart-first u (Fault l ∷ is) chain = record {
  apart = λ from to low. elim (cases_lt l 0xE000) [
    | inl below ↦ absurd (chain.1 (pair16 u l (record { from = from; to = to }) (record { from = low; to = below })))
    | inr past ↦ past
  ];
}

record AreUnits (us : List ℕ) : Type 0 where
  each : (k : ℕ) → get_or us k 0 < 0x10000

units-tail : (u : ℕ) (us : List ℕ) → AreUnits (u ∷ us) → AreUnits us
units-tail u us all = record { each = λ k. all.each (suc k) }

repaired-items : (b : ℕ) (is : List Item) → Chain Utf16 is → AreUnits (units_of Utf16 is) → IsApart b (get_or (units_of Utf16 is) 0 0) → repaired_after b (units_of Utf16 is) ≡ encode Utf16 (lossy is)
unfolding repaired_after
repaired-items b [] chain all far = refl
repaired-items b (Char c ∷ is) chain all far =
    let r = ranges c chain.0 in
    let us = units_of Utf16 is in
    elim (cases_lt c 0x10000) [
      | inl below ↦
          (let units : AreUnits (c ∷ us) = rw (one_unit c below) at all in
          rw (one_unit c below) (step-plain b c us (encode Utf16 (lossy is)) r.no_surrogate
          (repaired-items c is chain.2 (units-tail c us units) (record { apart = λ from to low. absurd (omega (arith, r.no_surrogate from)) }))))
      | inr above ↦
          (let units : AreUnits (high_of c ∷ low_of c ∷ us) = rw (two_units c above) at all in
          rw (two_units c above) (step-pair b (high_of c) (low_of c) us (encode Utf16 (lossy is)) (omega arith) (omega (arith, r.below)) (omega arith) (omega arith)
          (repaired-items (low_of c) is chain.2 (units-tail (low_of c) us (units-tail (high_of c) (low_of c ∷ us) units)) (record { apart = λ from to low. absurd (omega arith) }))))
    ]
repaired-items b (Fault u ∷ is) chain all far =
    let us = units_of Utf16 is in
    let range = fault-range u (all.each 0) chain.0 in
    let rest = units-tail u us all in
    elim (cases_lt u 0xDC00) [
      | inl high ↦ step-high b u us (encode Utf16 (lossy is)) range.0 high (apart-first u is chain) (repaired-items u is chain.2 rest (apart-first u is chain))
      | inr low ↦ step-low b u us (encode Utf16 (lossy is)) low range.1 (λ from. not_high b u from low range.1 far)
          (repaired-items u is chain.2 rest (record { apart = λ from to l. absurd (omega arith) }))
    ]
  where
    not_high : (b u : ℕ) → 0xD800 ≤ b → 0xDC00 ≤ u → u < 0xE000 → IsApart b u → 0xDC00 ≤ b
    not_high b u from low to far = elim (cases_lt b 0xDC00) [ inl below ↦ absurd (omega (arith, far.apart from below low)) | inr past ↦ past ]

repaired-all : (us : List ℕ) → ((k : ℕ) → get_or us k 0 < 0x10000) → repaired_after 0 us ≡ encode Utf16 (lossy (items Utf16 us))
repaired-all us each =
    let is = items Utf16 us in
    let same = units_of-items Utf16 us in
    let all : AreUnits (units_of Utf16 is) = rw same (record { each = each }) in
    ap (repaired_after 0) (sym same) ∙ repaired-items 0 is (items-chain Utf16 us) all (record { apart = λ from to low. absurd (omega arith) })

-- Units that are the repaired units at their indices are those of lossy text.
pub repaired-lossy : (us vs : List ℕ) → ((k : ℕ) → get_or us k 0 < 0x10000) → length vs ≡ length us → ((k : ℕ) → k < length us → get_or vs k 0 ≡ repaired_at us k) → vs ≡ encode Utf16 (lossy (items Utf16 us))
repaired-lossy us vs each long same =
    same_number_lists vs (repaired_after 0 us) (long ∙ sym (length-repaired 0 us)) (λ k within. same k (omega arith) ∙ sym (at-next us k (omega arith)))
    ∙ repaired-all us each
  where
    at-next : (us : List ℕ) (k : ℕ) → k < length us → get_or (repaired_after 0 us) k 0 ≡ repaired_at us k
    at-next us k within = at-repaired 0 us k within ∙ ap (λ j. repaired_unit (get_or (0 ∷ us) k 0) (get_or us k 0) (get_or us j 0)) (omega arith)

-- ---- UTF-32

repaired32 : (us : List ℕ) → encode Utf32 (lossy (items Utf32 us)) ≡ map repaired_scalar us
repaired32 us = encode32 (lossy (items Utf32 us)) ∙ each us
  where
    each : (us : List ℕ) → lossy (items Utf32 us) ≡ map repaired_scalar us
    each [] = ap lossy (items-nil Utf32)
    each (u ∷ us) = elim (cases_Bool (is_no_scalar u)) [
      | inl isnt ↦ ap lossy (items32-fault u us (λ scalar. grind (arith, isnt, scalar))) ∙ rw isnt (ap (λ xs. 0xFFFD ∷ xs) (each us))
      | inr is ↦ ap lossy (items32-char u us (grind (arith, is))) ∙ rw is (ap (λ xs. u ∷ xs) (each us))
    ]

pub repaired32-lossy : (us vs : List ℕ) → length vs ≡ length us → ((k : ℕ) → k < length us → get_or vs k 0 ≡ repaired_scalar (get_or us k 0)) → vs ≡ encode Utf32 (lossy (items Utf32 us))
repaired32-lossy us vs long same =
    same_number_lists vs (map repaired_scalar us) (long ∙ sym (length-map us repaired_scalar)) (λ k within. same k (omega arith) ∙ sym (get_or-map repaired_scalar us k 0 0 (omega arith)))
    ∙ sym (repaired32 us)

-- ---- over a prefix

pub prefix_is : (n : ℕ) (xs ys : List ℕ) → length ys ≡ n → take n (put_mid 0 n xs ys) ≡ ys
prefix_is n xs ys long = take-put_mid 0 n xs ys n (omega arith) (omega arith)
