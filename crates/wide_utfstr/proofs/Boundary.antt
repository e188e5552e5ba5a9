-- What the unit at an offset in well-formed units says about the offset, for units of any type.
use Rattle.std.proofs.Common.{◌≡◌, ℕ, zero, suc, inl, inr, ◌-◌, ◌+◌, ◌<◌, ◌≤◌, List, [], ◌∷◌, take, drop, length-append, length-take, Bool, true, false, not, nat_eq, refl, sym, ◌∙◌, ap, subst, arith, eq-eqb, map, length, get_or, IsTrue, ◌↔◌}
use Rattle.std.proofs.lemmas.List.{length-map, get_or-map, get_or-take, get_or_at, take-append-drop, length-take-le}
use borrow.Author.Tests.{eqb-true}
use Rattle.wide_forms.specs.EncodingForm.{EncodingForm, Utf16, Utf32, IsHighSurrogate, IsLowSurrogate}
use Rattle.wide_forms.specs.Items.{items, IsWellFormed, IsBoundary}
use Rattle.wide_forms.specs.Offsets.{IsCharBoundary}
use Rattle.wide_utfstr.specs.Boundaries.{IsFloorBoundary, IsCeilBoundary}
use Rattle.std.proofs.lemmas.Bool.{cases_eq, cases_lt}
use Rattle.wide_forms.specs.Laws.Forms.{IsPair-parts}
use Rattle.wide_forms.specs.Laws.Items.{IsCut}
use Rattle.wide_forms.specs.Laws.Boundaries.{IsBoundary-at, IsBoundary-end, IsBoundary-of_cut, no-low_at_boundary}
use Rattle.wide_forms.specs.Laws.Offsets.{IsBoundary-within}

module _ {X : Type 0} (form : EncodingForm) (number : X → ℕ) (xs : List X) (offset : ℕ) where
  pub boundary-within : IsBoundary form (map number xs) offset → offset ≤ length xs
  boundary-within at = omega (arith, IsBoundary-within form (map number xs) offset at, length-map xs number)

  -- The offset is at the end or past it.
  pub boundary_by_length : length xs ≤ offset → IsTrue (nat_eq offset (length xs)) ↔ IsBoundary form (map number xs) offset
  boundary_by_length past = (
    λ same. let e : length (map number xs) ≡ offset = omega (arith, length-map xs number, eqb-true offset (length xs) same) in
        subst (λ n. IsBoundary form (map number xs) n) e (IsBoundary-end form (map number xs)),
    λ at. let e : offset ≡ length xs = omega (arith, boundary-within at) in eq-eqb offset (length xs) e,
  )

  -- The offset is before the end.
  module _ (well : IsWellFormed form (map number xs)) (x : X) (here : offset < length xs) (is : x ≡ get_or xs offset x) where
    within : offset < length (map number xs)
    within = omega (arith, length-map xs number)

    unit : get_or (map number xs) offset 0 ≡ number x
    unit = get_or-map number xs offset x 0 here ∙ ap number (sym is)

    pub boundary_by_unit : (low : Bool) → IsTrue low ↔ IsLowSurrogate form (number x) → IsTrue (not low) ↔ IsBoundary form (map number xs) offset
    boundary_by_unit true reports = (
      λ e. absurd cc,
      λ at. absurd (no-low_at_boundary form (map number xs) offset well within at (subst (λ u. IsLowSurrogate form u) (sym unit) (reports.0 refl))),
    )
    boundary_by_unit false reports = (
      λ e. IsBoundary-at form (map number xs) offset (omega (arith, within)) (λ low. let e : false ≡ true = reports.1 (subst (λ u. IsLowSurrogate form u) unit low) in cc),
      λ at. refl,
    )

-- Well-formed units, in which the offset `n + 1` is before the end.
module _ (form : EncodingForm) (us : List ℕ) (n : ℕ) (well : IsWellFormed form us) (below : n + 1 < length us) where
  not_both : (form : EncodingForm) (u : ℕ) → IsHighSurrogate form u → IsLowSurrogate form u → ⊥
  not_both Utf16 u high low = omega (arith, high, low)
  not_both Utf32 u high low = high

  after_low : IsLowSurrogate form (get_or us n 0) → IsCut form (take (n + 1) us) (drop (n + 1) us)
  after_low low prefix back h l e f pair =
      let long : length prefix ≡ n = omega (arith, ap length e, length-append prefix (h ∷ []), length-take (n + 1) us) in
      let unit : get_or us n 0 ≡ h = sym (get_or-take (n + 1) us n 0 (omega arith)) ∙ ap (λ xs. get_or xs n 0) e ∙ get_or_at prefix h [] 0 n long in
      not_both form h (IsPair-parts form h l pair).0 (subst (λ u. IsLowSurrogate form u) unit low)

  -- The offset after a low surrogate is a boundary.
  pub beyond-boundary : IsLowSurrogate form (get_or us n 0) → IsBoundary form us (n + 1)
  beyond-boundary low =
      let b = IsBoundary-of_cut form (take (n + 1) us) (drop (n + 1) us) (after_low low) in
      (b.0, b.1, ap (λ xs. items form xs) (sym (take-append-drop (n + 1) us)) ∙ b.2, b.3 ∙ length-take-le (n + 1) us (omega arith))

  -- If an offset is no boundary, the offset before it is one.
  pub boundary_before : ¬ (IsCharBoundary form us (n + 1)) → IsCharBoundary form us n
  boundary_before none = (omega arith, λ some within low. none (omega arith, λ _ _ second. no-low_at_boundary form us (n + 1) well below (beyond-boundary low) second))

-- If an offset that is not the beginning is no boundary, the offset before it is one.
pub boundary_near : (form : EncodingForm) (us : List ℕ) (n : ℕ) → IsWellFormed form us → 0 < n → n ≤ length us → ¬ (IsCharBoundary form us n) → IsCharBoundary form us (n - 1)
boundary_near form us n well some within none = elim (cases_lt n (length us)) [
  | inl below ↦ (
      let e : n - 1 + 1 ≡ n = omega (arith, some) in
      boundary_before form us (n - 1) well (omega (arith, some, below)) (λ here. none (subst (λ k. IsCharBoundary form us k) e here)))
  | inr from ↦ absurd (none (omega (arith, within), λ _ inside _. omega (arith, from, inside)))
]

above-of_other : (n other : ℕ) → n ≤ other → (other ≡ n → ⊥) → n + 1 ≤ other
above-of_other n other l apart = grind (arith, l, apart)

below-of_other : (other n : ℕ) → other ≤ suc n → (other ≡ suc n → ⊥) → other ≤ n
below-of_other other n l apart = grind (arith, l, apart)

-- An offset `n` in well-formed units.
module _ (form : EncodingForm) (us : List ℕ) (n : ℕ) (well : IsWellFormed form us) where
  -- If an offset is no boundary, the offset after it is one.
  pub boundary_after : n < length us → ¬ (IsCharBoundary form us n) → IsCharBoundary form us (n + 1)
  boundary_after here none = (omega (arith, here), λ some within second. none (omega (arith, here), λ _ _ low. no-low_at_boundary form us (n + 1) well within (beyond-boundary form us n well within low) second))

  -- If an offset is no boundary, the offset after it is the next boundary.
  pub beyond-ceil : n < length us → ¬ (IsCharBoundary form us n) → IsCeilBoundary form us n (n + 1)
  beyond-ceil below none = record {
    boundary = boundary_after below none;
    not_before = λ l. omega arith;
    least = λ other here l. elim (cases_eq other n) [
      | inl same ↦ absurd (none (subst (λ k. IsCharBoundary form us k) same here))
      | inr apart ↦ above-of_other n other l apart
    ];
    past = λ l. absurd (omega (arith, below, l));
  }

-- If an offset is no boundary, the offset before it is the last boundary before it.
pub before-floor : (form : EncodingForm) (us : List ℕ) (n : ℕ) → IsWellFormed form us → n < length us → ¬ (IsCharBoundary form us n) → IsFloorBoundary form us n (n - 1)
before-floor form us zero well below none = absurd (none (omega arith, λ some within. absurd (omega (arith, some))))
before-floor form us (suc n) well below none =
    let once : suc n ≡ n + 1 = omega arith in
    let there : suc n - 1 ≡ n = omega arith in
    let below_there : n + 1 < length us = omega (arith, below) in
    let before = boundary_before form us n well below_there (subst (λ k. ¬ (IsCharBoundary form us k)) once none) in
    record {
      boundary = subst (λ k. IsCharBoundary form us k) (sym there) before;
      within = omega arith;
      greatest = λ other here l. elim (cases_eq other (suc n)) [
        | inl same ↦ absurd (none (subst (λ k. IsCharBoundary form us k) same here))
        | inr apart ↦ (let less : other ≤ n = below-of_other other n l apart in omega (arith, less))
      ];
    }
