-- The later of the greatest suffixes of a needle in two orders is where it is cut.
use Rattle.std.proofs.Common.{◌≡◌, ℕ, ◌+◌, ◌-◌, ◌<◌, ◌≤◌, inl, inr, sym, ap, ◌∙◌, subst, arith}
use Rattle.std.proofs.lemmas.Bool.{cases_eq, cases_lt}
use Rattle.std.specs.Prelude.{◌↔◌, IsTrue}
use Rattle.std.specs.Str.Critical.{IsBeaten, IsRepeat, IsSuffixAt}
use Rattle.wide_search.specs.Factorizations.{IsFactorization}
use Rattle.wide_search.specs.declared.factorization.Factorization.{Factorization}

module _ (lt : ℕ → ℕ → Type 0) (irreflexive : (a : ℕ) → lt a a → ⊥) (trans : (a b c : ℕ) → lt a b → lt b c → lt a c) where
  -- A suffix that differs from another first by a lesser number does not differ first by a greater one.
  unbeaten : (x : ℕ → ℕ) (m s c a : ℕ) → IsBeaten lt x m s c → ((t : ℕ) → t < a → x (c + t) ≡ x (s + t)) → s + a < m → lt (x (c + a)) (x (s + a)) → ⊥
  unbeaten x m s c a is same room less = elim (cases_lt a is.at) [
    | inl earlier ↦ irreflexive (x (s + a)) (subst (λ n. lt n (x (s + a))) (sym (is.same a earlier)) less)
    | inr rest ↦ elim is.ends [
      | inl ends ↦ absurd (omega (arith, ends, rest, room))
      | inr lesser ↦ elim (cases_eq is.at a) [
        | inl equal ↦ irreflexive (x (s + a)) (trans (x (s + a)) (x (c + a)) (x (s + a)) (subst (λ i. lt (x (s + i)) (x (c + i))) equal lesser.1) less)
        | inr other ↦ irreflexive (x (c + is.at)) (subst (λ n. lt n (x (c + is.at))) (sym (same is.at (omega (arith, rest, other)))) lesser.1)
      ]
    ]
  ]

  module _ (x : ℕ → ℕ) (m l p : ℕ) (is : IsSuffixAt lt x m l p) where
    -- No repeat at the beginning of the greatest suffix reaches into what is before the suffix.
    pub no-repeat-before : (d : ℕ) → 0 < d → d ≤ l → IsRepeat x m l d → ⊥
    no-repeat-before d some le repeat =
        let s = l - d in
        let back : s + d ≡ l = omega (arith, le) in
        let less = is.greatest s (omega (arith, some, le, is.some, is.fits)) (omega (arith, some, le)) in
        elim less.ends [
          | inl ends ↦ absurd (omega (arith, ends, less.room, back))
          | inr lesser ↦ elim (cases_lt less.at d) [
            | inl near ↦ (
                let there : s + less.at + d ≡ l + less.at = omega (arith, back) in
                let same : x (s + less.at) ≡ x (l + less.at) = repeat (s + less.at) (omega (arith, near, back)) (omega (arith, back)) (omega (arith, there, less.room)) ∙ ap x there in
                irreflexive (x (l + less.at)) (subst (λ n. lt n (x (l + less.at))) same lesser.1))
            | inr far ↦ (
                let a = less.at - d in
                let ours : s + less.at ≡ l + a = omega (arith, back, far) in
                let theirs : l + less.at ≡ l + d + a = omega (arith, far) in
                unbeaten x m (l + d) l a (is.greatest (l + d) (omega (arith, far, less.room)) (omega (arith, some)))
                (λ t below. (let here : s + (d + t) ≡ l + t = omega (arith, back) in let on : l + (d + t) ≡ l + d + t = omega arith in
                sym (ap x here) ∙ less.same (d + t) (omega (arith, below, far)) ∙ ap x on))
                (omega (arith, theirs, less.room))
                (subst (λ i. lt (x (l + a)) (x i)) theirs (subst (λ i. lt (x i) (x (l + less.at))) ours lesser.1)))
          ]
        ]

module _ (lt gt : ℕ → ℕ → Type 0) (irreflexive : (a : ℕ) → lt a a → ⊥) (trans : (a b c : ℕ) → lt a b → lt b c → lt a c)
    (irreflexive-gt : (a : ℕ) → gt a a → ⊥) (trans-gt : (a b c : ℕ) → gt a b → gt b c → gt a c) (turned : (a b : ℕ) → lt a b → gt b a)
    (x : ℕ → ℕ) (m l p : ℕ) (is : IsSuffixAt lt x m l p) (k q : ℕ) (other : IsSuffixAt gt x m k q) (earlier : k ≤ l) where
  -- No repeat at the beginning of the later greatest suffix is at less than the period of that suffix.
  pub no-repeat-below : (d : ℕ) → 0 < d → d < p → IsRepeat x m l d → ⊥
  no-repeat-below d some small repeat = elim (cases_lt l d) [
    | inr near ↦ no-repeat-before lt irreflexive trans x m l p is d some near repeat
    | inl far ↦ (
        let less = is.greatest (l + d) (omega (arith, small, is.fits)) (omega (arith, some)) in
        elim less.ends [
          | inl ends ↦ is.least d some small (λ i low room. (
              let t = i - l in
              let here : l + t ≡ i = omega (arith, low) in
              let there : l + d + t ≡ i + d = omega (arith, low) in
              sym (ap x here) ∙ sym (less.same t (omega (arith, here, room, ends))) ∙ ap x there))
          | inr lesser ↦ (
              let a = l - k + less.at in
              let ours : l + less.at ≡ k + a = omega (arith, earlier) in
              let theirs : l + d + less.at ≡ k + d + a = omega (arith, earlier) in
              unbeaten gt irreflexive-gt trans-gt x m (k + d) k a (other.greatest (k + d) (omega (arith, earlier, small, is.fits)) (omega (arith, some)))
              (λ t below. (let on : k + t + d ≡ k + d + t = omega arith in elim (cases_lt (k + t) l) [
                | inl before ↦ repeat (k + t) before (omega (arith, far)) (omega (arith, before, small, is.fits)) ∙ ap x on
                | inr beyond ↦ (
                    let u = k + t - l in
                    let here : l + u ≡ k + t = omega (arith, beyond) in
                    let there : l + d + u ≡ k + d + t = omega (arith, beyond) in
                    sym (ap x here) ∙ sym (less.same u (omega (arith, here, below, earlier))) ∙ ap x there)
              ]))
              (omega (arith, theirs, lesser.0))
              (subst (λ i. gt (x i) (x (k + d + a))) ours (turned (x (k + d + a)) (x (l + less.at)) (subst (λ i. lt (x i) (x (l + less.at))) theirs lesser.1))))
        ])
  ]

  -- Where the later greatest suffix begins, the needle has a factorization.
  pub cut-there : (parts : Factorization) → parts.cut ≡ l → parts.period ≡ p → IsTrue parts.repeats ↔ IsRepeat x m parts.cut parts.period → IsFactorization x m parts
  cut-there parts at by repeats = record {
    below = omega (arith, at, is.some, is.fits);
    some = omega (arith, by, is.some);
    fits = omega (arith, at, by, is.fits);
    periodic = λ i low room. (let there : i + p ≡ i + parts.period = omega (arith, by) in is.periodic i (omega (arith, at, low)) (omega (arith, room, by)) ∙ ap x there);
    least = λ d some small repeat. no-repeat-below d some (omega (arith, small, by)) (subst (λ c. IsRepeat x m c d) at repeat);
    beyond = λ d some le repeat. no-repeat-before lt irreflexive trans x m l p is d some (omega (arith, le, at)) (subst (λ c. IsRepeat x m c d) at repeat);
    repeats = repeats;
  }
