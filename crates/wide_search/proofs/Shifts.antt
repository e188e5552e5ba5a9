-- The offsets that a comparison of a needle of two parts rules out.
use Rattle.std.proofs.Common.{◌≡◌, ◌≢◌, ℕ, zero, suc, ◌+◌, ◌-◌, ◌<◌, ◌≤◌, inl, inr, sym, ap, ◌∙◌, subst, arith}
use Rattle.std.proofs.lemmas.Bool.{cases_lt}
use Rattle.std.specs.Str.Critical.{IsRepeat}
use Rattle.std.specs.Str.TwoWay.{OccursIn}
use Rattle.wide_search.specs.Factorizations.{IsFactorization}
use Rattle.wide_search.specs.declared.factorization.Factorization.{Factorization}

module _ (x : ℕ → ℕ) (m : ℕ) (parts : Factorization) (is : IsFactorization x m parts) where
  -- A repeat at a distance is one at the distance less the period.
  descend : (d : ℕ) → parts.period < d → parts.cut + d ≤ m → IsRepeat x m parts.cut d → IsRepeat x m parts.cut (d - parts.period)
  descend d longer fits repeat = λ k below reach within.
      let e : k + (d - parts.period) + parts.period ≡ k + d = omega (arith, longer) in
      repeat k below (omega (arith, reach, longer)) (omega (arith, below, fits)) ∙ sym (ap x e) ∙ sym (is.periodic (k + (d - parts.period)) reach (omega (arith, below, fits, longer)))

  -- A distance at which the second part repeats the first is a multiple of the period.
  record IsMultiple (d : ℕ) : Type 0 where
    least : IsRepeat x m parts.cut parts.period
    periodic : (i : ℕ) → parts.cut ≤ i → i + d < m → x i ≡ x (i + d)

  multiple-to : (n d : ℕ) → d ≤ n → 0 < d → parts.cut + d ≤ m → IsRepeat x m parts.cut d → IsMultiple d
  multiple-to zero d few some fits repeat = absurd (omega (arith, few, some))
  multiple-to (suc n) d few some fits repeat = elim (cases_lt d parts.period) [
    | inl below ↦ absurd (is.least d some below repeat)
    | inr more ↦ elim (cases_lt parts.period d) [
      | inl above ↦ (let rest = multiple-to n (d - parts.period) (omega (arith, few, above, is.some)) (omega (arith, above)) (omega (arith, fits)) (descend d above fits repeat) in
          record {
            least = rest.least;
            periodic = λ i after within.
                let e : i + (d - parts.period) + parts.period ≡ i + d = omega (arith, above) in
                rest.periodic i after (omega (arith, within)) ∙ is.periodic (i + (d - parts.period)) (omega (arith, after)) (omega (arith, within, above)) ∙ ap x e;
          })
      | inr equal ↦ (let e : d ≡ parts.period = omega (arith, more, equal) in
          record {
            least = subst (IsRepeat x m parts.cut) e repeat;
            periodic = subst (λ p. (i : ℕ) → parts.cut ≤ i → i + p < m → x i ≡ x (i + p)) (sym e) is.periodic;
          })
    ]
  ]

  multiple : (d : ℕ) → 0 < d → parts.cut + d ≤ m → IsRepeat x m parts.cut d → IsMultiple d
  multiple d some fits repeat = multiple-to d d (omega arith) some fits repeat

  module _ (h : ℕ → ℕ) (n at : ℕ) where
    -- An occurrence at a later offset is a repeat, if enough of the second part matches at this offset.
    repeat-of : (i d : ℕ) → ((j : ℕ) → parts.cut ≤ j → j < i → h (at + j) ≡ x j) → ((k : ℕ) → k < parts.cut → k + d < m → k + d < i) → OccursIn x m h n (at + d) → IsRepeat x m parts.cut d
    repeat-of i d same near occurs = λ k below reach within.
        let e : at + d + k ≡ at + (k + d) = omega arith in
        sym (occurs.reads k (omega (arith, within))) ∙ ap h e ∙ same (k + d) reach (near k below within)

    -- If the second part differs at an index, the needle does not occur at the next offsets, one for each unit
    -- compared.
    pub none-until : (i : ℕ) → parts.cut ≤ i → i < m → ((j : ℕ) → parts.cut ≤ j → j < i → h (at + j) ≡ x j) → h (at + i) ≢ x i
        → (k : ℕ) → at ≤ k → k < at + (i - parts.cut + 1) → ¬ (OccursIn x m h n k)
    none-until i after within same differ k le l occurs = elim (cases_lt at k) [
      | inl further ↦ (
          let d = k - at in
          let e : k ≡ at + (k - at) = omega (arith, le) in
          let there : OccursIn x m h n (at + (k - at)) = subst (OccursIn x m h n) e occurs in
          let repeat = repeat-of i (k - at) same (λ j below reach. omega (arith, below, l, after, le)) there in
          let again : x (i - (k - at)) ≡ x (i - (k - at) + (k - at)) = (multiple (k - at) (omega (arith, further)) (omega (arith, l, after, within)) repeat).periodic (i - (k - at)) (omega (arith, l, after)) (omega (arith, l, after, within)) in
          let e2 : i - (k - at) + (k - at) ≡ i = omega (arith, l, after) in
          let e3 : at + (k - at) + (i - (k - at)) ≡ at + i = omega (arith, l, after) in
          differ (sym (ap h e3) ∙ there.reads (i - (k - at)) (omega (arith, within)) ∙ again ∙ ap x e2))
      | inr here ↦ (
          let e : k ≡ at = omega (arith, le, here) in
          differ (sym (ap (λ a. h (a + i)) e) ∙ occurs.reads i within))
    ]

    -- All of the second part matches at an offset, and the first part differs.
    module _ (same : (j : ℕ) → parts.cut ≤ j → j < m → h (at + j) ≡ x j) (j : ℕ) (below : j < parts.cut) (differ : h (at + j) ≢ x j) where
      repeat-after : (k : ℕ) → at < k → OccursIn x m h n k → IsRepeat x m parts.cut (k - at)
      repeat-after k further occurs =
          let e : k ≡ at + (k - at) = omega (arith, further) in
          repeat-of m (k - at) same (λ i less within. within) (subst (OccursIn x m h n) e occurs)

      not-here : (k : ℕ) → at ≤ k → k ≤ at → ¬ (OccursIn x m h n k)
      not-here k le le2 occurs =
          let e : k ≡ at = omega (arith, le, le2) in
          differ (sym (ap (λ a. h (a + j)) e) ∙ occurs.reads j (omega (arith, below, is.below)))

      -- The needle occurs at none of the next offsets, as many as the period.
      pub none-within_period : (k : ℕ) → at ≤ k → k < at + parts.period → ¬ (OccursIn x m h n k)
      none-within_period k le l occurs = elim (cases_lt at k) [
        | inl further ↦ is.least (k - at) (omega (arith, further)) (omega (arith, l, further)) (repeat-after k further occurs)
        | inr here ↦ not-here k le here occurs
      ]

      -- If the period is none of the whole needle, the needle occurs at none of the next offsets, up to the length of
      -- the first part.
      pub none-within_cut : ¬ (IsRepeat x m parts.cut parts.period) → (k : ℕ) → at ≤ k → k ≤ at + parts.cut → ¬ (OccursIn x m h n k)
      none-within_cut once k le l occurs = elim (cases_lt at k) [
        | inl further ↦ is.beyond (k - at) (omega (arith, further)) (omega (arith, l, further)) (repeat-after k further occurs)
        | inr here ↦ not-here k le here occurs
      ]

      -- If the period is none of the whole needle, the needle occurs at none of the next offsets, up to the length of
      -- the second part.
      pub none-within_rest : ¬ (IsRepeat x m parts.cut parts.period) → (k : ℕ) → at ≤ k → k ≤ at + (m - parts.cut) → ¬ (OccursIn x m h n k)
      none-within_rest once k le l occurs = elim (cases_lt at k) [
        | inl further ↦ once (multiple (k - at) (omega (arith, further)) (omega (arith, l, further, is.below)) (repeat-after k further occurs)).least
        | inr here ↦ not-here k le here occurs
      ]

    -- If the period is one of the whole needle, units that match at an offset also match a period later.
    pub known-after : IsRepeat x m parts.cut parts.period → ((j : ℕ) → parts.cut ≤ j → j < m → h (at + j) ≡ x j) → (j : ℕ) → j < m - parts.period → h (at + parts.period + j) ≡ x j
    known-after repeat same j l = elim (cases_lt parts.cut parts.period) [
      | inr short ↦ absurd (is.beyond parts.period is.some short repeat)
      | inl long ↦ (
          let e : at + parts.period + j ≡ at + (j + parts.period) = omega arith in
          let there : h (at + parts.period + j) ≡ x (j + parts.period) = ap h e ∙ same (j + parts.period) (omega (arith, long)) (omega (arith, l)) in
          elim (cases_lt j parts.cut) [
            | inl first ↦ there ∙ sym (repeat j first (omega (arith, long)) (omega (arith, l)))
            | inr second ↦ there ∙ sym (is.periodic j second (omega (arith, l)))
          ])
    ]

-- A property that holds nowhere in two adjacent ranges of offsets holds nowhere in both together.
pub nowhere-further : (P : ℕ → Type 0) (from at end : ℕ) → ((k : ℕ) → from ≤ k → k < at → ¬ (P k)) → ((k : ℕ) → at ≤ k → k < end → ¬ (P k)) → (k : ℕ) → from ≤ k → k < end → ¬ (P k)
nowhere-further P from at end before next k le l holds = elim (cases_lt k at) [
  | inl earlier ↦ before k le earlier holds
  | inr later ↦ next k later l holds
]

-- A property that holds for the first indices, and for those from `start` on, holds for all from `cut` on.
pub known-from : (P : ℕ → Type 0) (known cut start end : ℕ) → start ≤ cut + (known - cut) → ((k : ℕ) → k < known → P k) → ((k : ℕ) → start ≤ k → k < end → P k) → (k : ℕ) → cut ≤ k → k < end → P k
known-from P known cut start end le first next k le2 l = elim (cases_lt k known) [
  | inl earlier ↦ first k earlier
  | inr later ↦ next k (omega (arith, le, le2, later)) l
]
