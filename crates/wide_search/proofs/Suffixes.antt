-- The greatest suffix of a needle, and the invariant of the loop that finds it.
use Rattle.std.proofs.Common.{◌≡◌, ◌⊎◌, ℕ, zero, suc, ◌+◌, ◌-◌, ◌<◌, ◌≤◌, inl, inr, refl, sym, ap, ◌∙◌, subst, arith, eqb, cond}
use Rattle.std.proofs.lemmas.Bool.{cases_eq, cases_lt}
use Rattle.std.proofs.lemmas.Bool.Decides.{nat_tests}
use Rattle.std.specs.Str.Critical.{IsBeaten, IsMaxSuffix, IsSuffixAt}

-- The suffixes from s and from c on differ first by a lesser number from s on, and both numbers are before e.
pub record IsLesser (lt : ℕ → ℕ → Type 0) (x : ℕ → ℕ) (e s c : ℕ) : Type 0 where
  pub at : ℕ
  pub same : (t : ℕ) → t < at → x (s + t) ≡ x (c + t)
  pub room : s + at < e
  pub space : c + at < e
  pub less : lt (x (s + at)) (x (c + at))

-- The numbers from s on, up to e, are those from c on.
abbrev pub Agree : (ℕ → ℕ) → ℕ → ℕ → ℕ → Type 0
Agree x e s c = (t : ℕ) → s + t < e → x (s + t) ≡ x (c + t)

-- The numbers from l on, up to e, have the period p. The suffixes at lesser distances are less within the first period.
pub record IsLeastPeriod (lt : ℕ → ℕ → Type 0) (x : ℕ → ℕ) (e l p : ℕ) : Type 0 where
  pub some : 0 < p
  pub fits : l + p ≤ e
  pub periodic : (i j : ℕ) → i + p ≡ j → l ≤ i → j < e → x i ≡ x j
  pub least : (d : ℕ) → 0 < d → d < p → IsLesser lt x (l + p) (l + d) l

-- The suffix from l on is greater than those before it, and has the period p up to the k numbers from o on. From base
-- on, one period before o, the numbers are those from l on.
pub record IsCandidate (lt : ℕ → ℕ → Type 0) (x : ℕ → ℕ) (m l o k p : ℕ) : Type 0 where
  pub base : ℕ
  pub based : base + p ≡ o
  pub low : l ≤ base
  pub inside : k < p
  pub fits : o + k ≤ m
  pub period : IsLeastPeriod lt x (o + k) l p
  pub prefix : Agree x (o + k) base l
  pub before : (s : ℕ) → s < l → IsLesser lt x m s l

module _ (lt : ℕ → ℕ → Type 0) where
  pub lesser-within : (x : ℕ → ℕ) (e f s c : ℕ) → e ≤ f → IsLesser lt x e s c → IsLesser lt x f s c
  lesser-within x e f s c le is = record { at = is.at; same = is.same; room = omega (arith, is.room); space = omega (arith, is.space); less = is.less }

  -- A suffix that is less before index e is less in numbers that are the same before e.
  pub lesser-same : (x y : ℕ → ℕ) (e s c : ℕ) → ((i : ℕ) → i < e → y i ≡ x i) → IsLesser lt x e s c → IsLesser lt y e s c
  lesser-same x y e s c below is = record {
    at = is.at;
    same = λ t l. below (s + t) (omega (arith, l, is.room)) ∙ is.same t l ∙ sym (below (c + t) (omega (arith, l, is.space)));
    room = is.room;
    space = is.space;
    less = subst (λ n. lt n (y (c + is.at))) (sym (below (s + is.at) is.room)) (subst (λ n. lt (x (s + is.at)) n) (sym (below (c + is.at) is.space)) is.less);
  }

  module _ (trans : (a b c : ℕ) → lt a b → lt b c → lt a c) where
    -- A suffix that is less than another, which is less than a third, is less than the third.
    pub lesser-trans : (x : ℕ → ℕ) (m s l o : ℕ) → IsLesser lt x m s l → IsLesser lt x m l o → IsLesser lt x m s o
    lesser-trans x m s l o one two = elim (cases_lt one.at two.at) [
      | inl below ↦ record {
        at = one.at;
        same = λ t lower. one.same t lower ∙ two.same t (omega (arith, lower, below));
        room = one.room;
        space = omega (arith, below, two.space);
        less = subst (λ n. lt (x (s + one.at)) n) (two.same one.at below) one.less;
      }
      | inr above ↦ elim (cases_eq one.at two.at) [
        | inl equal ↦ record {
          at = one.at;
          same = λ t lower. one.same t lower ∙ two.same t (omega (arith, lower, equal));
          room = one.room;
          space = omega (arith, equal, two.space);
          less = trans (x (s + one.at)) (x (l + one.at)) (x (o + one.at)) one.less (subst (λ n. lt (x (l + n)) (x (o + n))) (sym equal) two.less);
        }
        | inr other ↦ (let more : two.at < one.at = omega (arith, above, other) in record {
          at = two.at;
          same = λ t lower. one.same t (omega (arith, lower, more)) ∙ two.same t lower;
          room = omega (arith, one.room, more);
          space = two.space;
          less = subst (λ n. lt n (x (o + two.at))) (sym (one.same two.at more)) two.less;
        })
      ]
    ]

  -- ---- the suffixes after the greatest one

  module _ (x : ℕ → ℕ) (e l p : ℕ) (is : IsLeastPeriod lt x e l p) where
    -- A suffix that is less than the greatest one, or agrees with it, does so a period later, as far as there are
    -- numbers.
    shifted : (u s : ℕ) → u + p ≡ s → l ≤ u → IsLesser lt x e u l ⊎ Agree x e u l → IsLesser lt x e s l ⊎ Agree x e s l
    shifted u s at low (inr agree) = inr (λ t room. sym (is.periodic (u + t) (s + t) (omega (arith, at)) (omega (arith, low)) room) ∙ agree t (omega (arith, room, at)))
    shifted u s at low (inl less) = elim (cases_lt (s + less.at) e) [
      | inl room ↦ inl (record {
        at = less.at;
        same = λ t lower. sym (is.periodic (u + t) (s + t) (omega (arith, at)) (omega (arith, low)) (omega (arith, lower, room))) ∙ less.same t lower;
        room = room;
        space = less.space;
        less = subst (λ n. lt n (x (l + less.at))) (is.periodic (u + less.at) (s + less.at) (omega (arith, at)) (omega (arith, low)) room) less.less;
      })
      | inr none ↦ inr (λ t room. sym (is.periodic (u + t) (s + t) (omega (arith, at)) (omega (arith, low)) room) ∙ less.same t (omega (arith, none, room)))
    ]

    after-step : (s : ℕ) → l ≤ s → (s - p + p ≡ s → l ≤ s - p → IsLesser lt x e (s - p) l ⊎ Agree x e (s - p) l) → IsLesser lt x e s l ⊎ Agree x e s l
    after-step s low earlier = elim (cases_eq s l) [
      | inl same ↦ inr (λ t room. ap (λ i. x (i + t)) same)
      | inr other ↦ elim (cases_lt s (l + p)) [
        | inl near ↦ (let at : l + (s - l) ≡ s = omega (arith, low) in
            inl (subst (λ i. IsLesser lt x e i l) at (lesser-within x (l + p) e (l + (s - l)) l is.fits (is.least (s - l) (omega (arith, low, other)) (omega (arith, near, low))))))
        | inr far ↦ (let at : s - p + p ≡ s = omega (arith, far) in shifted (s - p) s at (omega (arith, far)) (earlier at (omega (arith, far))))
      ]
    ]

    after-to : (n s : ℕ) → s ≤ n → l ≤ s → IsLesser lt x e s l ⊎ Agree x e s l
    after-to zero s le low = after-step s low (λ at lower. absurd (omega (arith, le, at, is.some)))
    after-to (suc n) s le low = after-step s low (λ at lower. after-to n (s - p) (omega (arith, le, at, is.some)) lower)

    -- From the greatest suffix on, each suffix is less, or the greatest one begins with it.
    pub after : (s : ℕ) → l ≤ s → IsLesser lt x e s l ⊎ Agree x e s l
    after s low = after-to s s (omega arith) low

  -- ---- the steps of the loop

  module _ (x : ℕ → ℕ) (m l o k p : ℕ) (is : IsCandidate lt x m l o k p) where
    -- One more number continues the period, in numbers that are the same before it.
    extended : (y : ℕ → ℕ) (e : ℕ) → e ≡ o + k + 1 → ((i : ℕ) → i < o + k → y i ≡ x i) → y (o + k) ≡ x (l + k) → IsLeastPeriod lt y e l p
    extended y e end below next = record {
      some = is.period.some;
      fits = omega (arith, is.period.fits, end);
      periodic = λ i j at low room. elim (cases_lt j (o + k)) [
        | inl earlier ↦ below i (omega (arith, at, earlier)) ∙ is.period.periodic i j at low earlier ∙ sym (below j earlier)
        | inr later ↦ (
            let last : j ≡ o + k = omega (arith, room, later, end) in
            let before : i ≡ is.base + k = omega (arith, last, at, is.based) in
            below i (omega (arith, last, at, is.period.some)) ∙ ap x before ∙ is.prefix k (omega (arith, is.based, is.period.some)) ∙ sym next ∙ ap y (sym last))
      ];
      least = λ d some small. lesser-same x y (l + p) (l + d) l (λ i room. below i (omega (arith, room, is.period.fits))) (is.period.least d some small);
    }

    module _ (room : o + k < m) (ours theirs : ℕ) (here : ours ≡ x (l + k)) (there : theirs ≡ x (o + k)) where
      module _ (both : theirs ≡ ours) where
        equal : x (o + k) ≡ x (l + k)
        equal = sym there ∙ both ∙ here

        longer : (e : ℕ) → e ≡ o + k + 1 → IsLeastPeriod lt x e l p
        longer e end = extended x e end (λ i space. refl) equal

        prefix-longer : (e : ℕ) → e ≡ o + k + 1 → Agree x e is.base l
        prefix-longer e end t space = elim (cases_lt (is.base + t) (o + k)) [
          | inl earlier ↦ is.prefix t earlier
          | inr later ↦ (
              let last : is.base + t ≡ o + k = omega (arith, space, later, end) in
              ap x last ∙ equal ∙ (longer e end).periodic (l + k) (l + t) (omega (arith, last, is.based)) (omega arith) (omega (arith, space, is.low)))
        ]

        pub matched-more : k + 1 < p → IsCandidate lt x m l o (k + 1) p
        matched-more inside = record {
          base = is.base;
          based = is.based;
          low = is.low;
          inside = inside;
          fits = omega (arith, room);
          period = longer (o + (k + 1)) (omega arith);
          prefix = prefix-longer (o + (k + 1)) (omega arith);
          before = is.before;
        }

        pub next-period : p ≤ k + 1 → IsCandidate lt x m l (o + p) 0 p
        next-period full =
            let end : o + p + 0 ≡ o + k + 1 = omega (arith, full, is.inside) in record {
              base = o;
              based = refl;
              low = omega (arith, is.low, is.based);
              inside = is.period.some;
              fits = omega (arith, room, end);
              period = longer (o + p + 0) end;
              prefix = λ t space. sym ((longer (o + p + 0) end).periodic (is.base + t) (o + t) (omega (arith, is.based)) (omega (arith, is.low)) space) ∙ prefix-longer (o + p + 0) end t (omega (arith, space, is.based));
              before = is.before;
            }

      module _ (trans : (a b c : ℕ) → lt a b → lt b c → lt a c) where
        module _ (below : lt theirs ours) where
          less : lt (x (o + k)) (x (l + k))
          less = subst (λ n. lt n (x (l + k))) there (subst (λ n. lt theirs n) here below)

          -- The numbers, with the last one replaced by that which would continue the period.
          abbrev continued : ℕ → ℕ
          continued i = cond (eqb i (o + k)) (x (l + k)) (x i)

          continued-before : (i : ℕ) → i < o + k → continued i ≡ x i
          continued-before i early = grind (arith, nat_tests)

          continued-last : continued (o + k) ≡ x (l + k)
          continued-last = grind (arith, nat_tests)

          lesser-last : (s a : ℕ) → l < s → s + a ≡ o + k → ((t : ℕ) → t < a → continued (s + t) ≡ continued (l + t)) → lt (x (o + k)) (x (l + a)) → IsLesser lt x (o + k + 1) s l
          lesser-last s a low at same last = record {
            at = a;
            same = λ t below. sym (continued-before (s + t) (omega (arith, below, at))) ∙ same t below ∙ continued-before (l + t) (omega (arith, below, at, low));
            room = omega (arith, at);
            space = omega (arith, at, low);
            less = subst (λ i. lt (x i) (x (l + a))) (sym at) last;
          }

          continued-lesser : (s : ℕ) → l < s → IsLesser lt continued (o + k + 1) s l → IsLesser lt x (o + k + 1) s l
          continued-lesser s low is-less =
              let a = is-less.at in
              let ours : continued (l + a) ≡ x (l + a) = continued-before (l + a) (omega (arith, low, is-less.room)) in
              elim (cases_lt (s + a) (o + k)) [
                | inl earlier ↦ record {
                  at = a;
                  same = λ t below. sym (continued-before (s + t) (omega (arith, below, earlier))) ∙ is-less.same t below ∙ continued-before (l + t) (omega (arith, below, earlier, low));
                  room = omega (arith, earlier);
                  space = omega (arith, earlier, low);
                  less = subst (λ n. lt (x (s + a)) n) ours (subst (λ n. lt n (continued (l + a))) (continued-before (s + a) earlier) is-less.less);
                }
                | inr later ↦ (
                    let last : s + a ≡ o + k = omega (arith, later, is-less.room) in
                    let above : lt (x (l + k)) (x (l + a)) = subst (λ n. lt (x (l + k)) n) ours (subst (λ n. lt n (continued (l + a))) (ap continued last ∙ continued-last) is-less.less) in
                    lesser-last s a low last is-less.same (trans (x (o + k)) (x (l + k)) (x (l + a)) less above))
              ]

          lesser-through : (s : ℕ) → l < s → s ≤ o + k → IsLesser lt x (o + k + 1) s l
          lesser-through s low le = elim (after continued (o + k + 1) l p (extended continued (o + k + 1) refl continued-before continued-last) s (omega (arith, low))) [
            | inl is-less ↦ continued-lesser s low is-less
            | inr agree ↦ (
                let a = o + k - s in
                let last : s + a ≡ o + k = omega (arith, le) in
                let same : x (l + k) ≡ x (l + a) = sym continued-last ∙ ap continued (sym last) ∙ agree a (omega (arith, last)) ∙ continued-before (l + a) (omega (arith, last, low)) in
                lesser-last s a low last (λ t below. agree t (omega (arith, below, last))) (subst (λ n. lt (x (o + k)) n) same less))
          ]

          pub lesser-more : IsCandidate lt x m l (o + (k + 1)) 0 (o + (k + 1) - l)
          lesser-more =
              let whole : l + (o + (k + 1) - l) ≡ o + k + 1 = omega (arith, is.low, is.based) in record {
                base = l;
                based = omega (arith, whole);
                low = omega arith;
                inside = omega (arith, is.low, is.based);
                fits = omega (arith, room);
                period = record {
                  some = omega (arith, is.low, is.based);
                  fits = omega (arith, whole);
                  periodic = λ i j at low space. absurd (omega (arith, at, low, space, whole));
                  least = λ d some small. subst (λ e. IsLesser lt x e (l + d) l) (sym whole) (lesser-through (l + d) (omega (arith, some)) (omega (arith, small, whole)));
                };
                prefix = λ t space. refl;
                before = is.before;
              }

        module _ (above : lt ours theirs) where
          more : lt (x (l + k)) (x (o + k))
          more = subst (λ n. lt n (x (o + k))) here (subst (λ n. lt ours n) there above)

          agree-start : Agree x (o + k) o l
          agree-start t space = sym (is.period.periodic (is.base + t) (o + t) (omega (arith, is.based)) (omega (arith, is.low)) space) ∙ is.prefix t (omega (arith, space, is.based))

          start-lesser : IsLesser lt x m l o
          start-lesser = record {
            at = k;
            same = λ t below. sym (agree-start t (omega (arith, below)));
            room = omega (arith, room, is.low, is.based);
            space = room;
            less = more;
          }

          between-lesser : (s : ℕ) → l < s → s < o → IsLesser lt x m s o
          between-lesser s low high = elim (after x (o + k) l p is.period s (omega (arith, low))) [
            | inl less ↦ lesser-trans trans x m s l o (lesser-within x (o + k) m s l (omega (arith, room)) less) start-lesser
            | inr agree ↦ record {
              at = k;
              same = λ t below. agree t (omega (arith, below, high)) ∙ sym (agree-start t (omega (arith, below)));
              room = omega (arith, room, high);
              space = room;
              less = subst (λ n. lt n (x (o + k))) (sym (agree k (omega (arith, high)))) more;
            }
          ]

          before-other : (s : ℕ) → s < o → IsLesser lt x m s o
          before-other s high = elim (cases_lt s l) [
            | inl low ↦ lesser-trans trans x m s l o (is.before s low) start-lesser
            | inr rest ↦ elim (cases_eq s l) [
              | inl same ↦ subst (λ i. IsLesser lt x m i o) (sym same) start-lesser
              | inr other ↦ between-lesser s (omega (arith, rest, other)) high
            ]
          ]

          pub other-starts : IsCandidate lt x m o (o + 1) 0 1
          other-starts = record {
            base = o;
            based = refl;
            low = omega arith;
            inside = omega arith;
            fits = omega (arith, room);
            period = record {
              some = omega arith;
              fits = omega arith;
              periodic = λ i j at low space. absurd (omega (arith, at, low, space));
              least = λ d some small. absurd (omega (arith, some, small));
            };
            prefix = λ t space. refl;
            before = before-other;
          }

    -- ---- after the loop

    module _ (irreflexive : (a : ℕ) → lt a a → ⊥) (all : m ≤ o + k) where
      whole-period : IsLeastPeriod lt x m l p
      whole-period = let end : o + k ≡ m = omega (arith, all, is.fits) in subst (λ e. IsLeastPeriod lt x e l p) end is.period

      lesser-beaten : (s : ℕ) → IsLesser lt x m s l → IsBeaten lt x m s l
      lesser-beaten s less = record { at = less.at; same = less.same; room = less.space; ends = inr (less.room, less.less) }

      beaten : IsMaxSuffix lt x m l
      beaten s below other = elim (cases_lt s l) [
        | inl earlier ↦ lesser-beaten s (is.before s earlier)
        | inr later ↦ elim (after x m l p whole-period s later) [
          | inl less ↦ lesser-beaten s less
          | inr agree ↦ record {
            at = m - s;
            same = λ t space. agree t (omega (arith, space));
            room = omega (arith, later, other, below);
            ends = inl (omega (arith, below));
          }
        ]
      ]

      pub greatest-suffix : IsSuffixAt lt x m l p
      greatest-suffix = record {
        greatest = beaten;
        some = whole-period.some;
        fits = whole-period.fits;
        periodic = λ i low space. whole-period.periodic i (i + p) refl low space;
        least = λ d some small same.
            let less = whole-period.least d some small in
            let equal : x (l + d + less.at) ≡ x (l + less.at) = (let turned : l + less.at + d ≡ l + d + less.at = omega arith in
            sym (ap x turned) ∙ sym (same (l + less.at) (omega arith) (omega (arith, less.room, whole-period.fits)))) in
            irreflexive (x (l + less.at)) (subst (λ n. lt n (x (l + less.at))) equal less.less);
      }
