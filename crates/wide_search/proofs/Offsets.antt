-- Occurrences of a needle, in the form that loops need.
use Rattle.std.proofs.Common.{◌≡◌, ◌≢◌, ℕ, zero, suc, ◌+◌, ◌-◌, ◌<◌, ◌≤◌, List, [], ◌∷◌, ◌++◌, inl, inr, refl, sym, ◌∙◌, ap, subst, arith, length, length-append, length-drop, get_or, take, drop, IfNone}
use Rattle.std.specs.Prelude.{◌↔◌, ◌==◌, Option, Some, None, true, false, map, slice_index}
use Rattle.std.specs.List.{All}
use Rattle.std.proofs.lemmas.Bool.{cases_lt}
use Rattle.std.proofs.lemmas.List.{take-append-drop, take_all, nil_from_length}
use Rattle.std.proofs.Math.Seq.{take-append_seam, drop-append_seam}
use Rattle.wide_search.specs.Occurrences.{OccursAt, OccursNowhere, BeginsWith, EndsWith}
use Rattle.wide_search.specs.Sought.{first_and}
use Rattle.wide_search.specs.Laws.Occurrences.{occurs-back, occurs-left, occurs-beyond}

module _ {A : Type 0} where
  pub begins-reported : {T : Type 0} (needle us prefix : List A) → prefix ≡ take (length needle) us → T ↔ (prefix ≡ needle) → T ↔ BeginsWith needle us
  begins-reported needle us prefix is reported = (
    λ t. (drop (length needle) us, sym (take-append-drop (length needle) us) ∙ ap (λ xs. xs ++ drop (length needle) us) (sym is ∙ reported.0 t)),
    λ begins. reported.1 (is ∙ ap (take (length needle)) begins.1 ∙ take-append_seam needle begins.0),
  )

  pub ends-reported : {T : Type 0} (needle us end : List A) → end ≡ drop (length us - length needle) us → T ↔ (end ≡ needle) → T ↔ EndsWith needle us
  ends-reported needle us end is reported = (
    λ t. (take (length us - length needle) us, sym (take-append-drop (length us - length needle) us) ∙ ap (λ xs. take (length us - length needle) us ++ xs) (sym is ∙ reported.0 t)),
    λ ends. reported.1 (
        let at : length us - length needle ≡ length ends.0 = omega (arith, ap length ends.1, length-append ends.0 needle) in
        is ∙ ap (λ n. drop n us) at ∙ ap (λ xs. drop (length ends.0) xs) ends.1 ∙ drop-append_seam ends.0 needle),
  )

  -- Units do not begin with a longer needle.
  pub longer-begins : (needle us : List A) → length us < length needle → ¬ (BeginsWith needle us)
  longer-begins needle us long begins = omega (arith, long, ap length begins.1, length-append needle begins.0)

  -- Units do not end with a longer needle.
  pub longer-ends : (needle us : List A) → length us < length needle → ¬ (EndsWith needle us)
  longer-ends needle us long ends = omega (arith, long, ap length ends.1, length-append ends.0 needle)

  -- A longer needle occurs nowhere in units.
  pub longer-nowhere : (needle us : List A) → length us < length needle → OccursNowhere needle us
  longer-nowhere needle us long at occurs = omega (arith, long, occurs.within)

-- A needle of one unit or two begins with the first.
pub few-first : {C : Type 0} (first : C) (second : Option C) → (rest : List C) × (first_and first second ≡ first ∷ rest)
few-first first None = ([], refl)
few-first first (Some u) = (u ∷ [], refl)

pub none-then : {X : Type 0} {P Q : Type 0} (r : Option X) → IfNone r P → (P → Q) → IfNone r Q
none-then None given next = next given
none-then (Some x) given next = given

-- ---- after units that are not the first one of the needle

module _ {X : Type 0} (number : X → ℕ) where
  head-of_prefix : (u : X) (rest xs : List X) (n k : ℕ) → k < n → OccursAt (u ∷ rest) xs k → (k < length (take n xs)) × (get_or (take n xs) k u ≡ u)
  head-of_prefix u rest xs zero k l occurs = absurd (omega (arith, l))
  head-of_prefix u rest [] (suc n) k l occurs = absurd (omega (arith, occurs.within))
  head-of_prefix u rest (x ∷ xs) (suc n) zero l occurs = (omega arith, cc (occurs.same))
  head-of_prefix u rest (x ∷ xs) (suc n) (suc k) l occurs =
      let more = head-of_prefix u rest xs n k (omega (arith, l)) (occurs-back (u ∷ rest) x xs k occurs) in
      (omega (arith, more.0), more.1)

  pub none-passed : (needle us rest : List X) (u : X) (at n k : ℕ) → needle ≡ u ∷ rest → All (λ x. number x ≢ number u) (take n (drop at us)) → k < n → ¬ (OccursAt needle us (at + k))
  none-passed needle us rest u at n k e none l occurs =
      let here : OccursAt (u ∷ rest) (drop at us) k = subst (λ xs. OccursAt xs (drop at us) k) e (occurs-left needle us at k occurs) in
      let head = head-of_prefix u rest (drop at us) n k l here in
      none k u head.0 (ap number head.1)

  -- There is no occurrence if the first unit of the needle does not occur in what is left.
  pub none-left : (needle us rest : List X) (u : X) (at : ℕ) → needle ≡ u ∷ rest → All (λ x. number x ≢ number u) (drop at us) → ((earlier : ℕ) → earlier < at → ¬ (OccursAt needle us earlier)) → OccursNowhere needle us
  none-left needle us rest u at e none before offset occurs = elim (cases_lt offset at) [
    | inl earlier ↦ before offset earlier occurs
    | inr later ↦ (let whole : take (length us) (drop at us) ≡ drop at us = take_all (length us) (drop at us) (omega (arith, length-drop at us)) in
        let same : offset ≡ at + (offset - at) = omega (arith, later) in
        let some : length needle ≡ suc (length rest) = ap length e in
        none-passed needle us rest u at (length us) (offset - at) e (subst (All (λ x. number x ≢ number u)) (sym whole) none) (omega (arith, occurs.within, some)) (subst (λ n. OccursAt needle us n) same occurs))
  ]

  -- If the first unit of the needle does not occur in the next `n` units, the needle occurs at none of their offsets.
  pub none-before : (needle us rest : List X) (u : X) (at n : ℕ) → needle ≡ u ∷ rest → All (λ x. number x ≢ number u) (take n (drop at us)) → ((earlier : ℕ) → earlier < at → ¬ (OccursAt needle us earlier)) → (offset : ℕ) → offset < at + n → ¬ (OccursAt needle us offset)
  none-before needle us rest u at n e none before offset l occurs = elim (cases_lt offset at) [
    | inl earlier ↦ before offset earlier occurs
    | inr later ↦ (let same : offset ≡ at + (offset - at) = omega (arith, later) in
        none-passed needle us rest u at n (offset - at) e none (omega (arith, l, later)) (subst (λ k. OccursAt needle us k) same occurs))
  ]

  -- The needle does not occur in what is left if the number of its first unit does not.
  module _ (needle us tail left : List X) (u : X) (v at : ℕ) (e : needle ≡ u ∷ tail) (code : v ≡ number u) (rest : left ≡ drop at us) (before : (earlier : ℕ) → earlier < at → ¬ (OccursAt needle us earlier)) where
    pub none-reported : All (λ x. number x ≢ v) left → OccursNowhere needle us
    none-reported all = none-left needle us tail u at e (subst (λ n. All (λ x. number x ≢ n) (drop at us)) code (subst (All (λ x. number x ≢ v)) rest all)) before

    -- If the number of its first unit does not occur in the next `n` units, the needle occurs at none of their offsets.
    pub before-reported : (n : ℕ) → All (λ x. number x ≢ v) (take n left) → (offset : ℕ) → offset < at + n → ¬ (OccursAt needle us offset)
    before-reported n all = none-before needle us tail u at n e (subst (λ m. All (λ x. number x ≢ m) (take n (drop at us))) code (subst (λ xs. All (λ x. number x ≢ v) (take n xs)) rest all)) before

  -- From an offset on at which the number is that of a unit, the units begin as a needle does that begins with this
  -- unit.
  pub first-alike : ((x y : X) → number x ≡ number y → x ≡ y) → (u : X) (rest xs : List X) (n : ℕ) → n < length xs → slice_index (map number xs) n ≡ number u → take 1 (u ∷ rest) ≡ take 1 (drop n xs)
  first-alike same u rest [] n l is = absurd (omega (arith, l))
  first-alike same u rest (x ∷ xs) zero l is = ap (λ y. y ∷ []) (same u x (sym is))
  first-alike same u rest (x ∷ xs) (suc n) l is = first-alike same u rest xs n (omega (arith, l)) is

  -- An occurrence at the beginning of what two splits leave is one in the whole.
  pub occurs-cut : (needle us : List X) (at n : ℕ) → at + n ≤ length us → OccursAt needle (drop n (drop at us)) 0 → OccursAt needle us (at + n)
  occurs-cut needle us at n within occurs =
      let once : OccursAt needle (drop at us) (n + 0) = occurs-beyond needle (drop at us) n 0 (omega (arith, within, length-drop at us)) occurs in
      let none : n + 0 ≡ n = omega arith in
      occurs-beyond needle us at n (omega (arith, within)) (subst (λ k. OccursAt needle (drop at us) k) none once)

  -- An occurrence in the whole is one at the beginning of what two splits at its offset leave.
  pub cut-occurs : (needle us : List X) (at n : ℕ) → OccursAt needle us (at + n) → OccursAt needle (drop n (drop at us)) 0
  cut-occurs needle us at n occurs =
      let once : OccursAt needle (drop at us) n = occurs-left needle us at n occurs in
      let none : n ≡ n + 0 = omega arith in
      occurs-left needle (drop at us) n 0 (subst (λ k. OccursAt needle (drop at us) k) none once)

  -- If a needle occurs at no offset before one, and not there, it occurs at none up to there.
  pub none-through : (needle us : List X) (at n : ℕ) → ((offset : ℕ) → offset < at + n → ¬ (OccursAt needle us offset)) → ¬ (OccursAt needle us (at + n)) → (offset : ℕ) → offset < at + (n + 1) → ¬ (OccursAt needle us offset)
  none-through needle us at n before here offset l occurs = elim (cases_lt offset (at + n)) [
    | inl earlier ↦ before offset earlier occurs
    | inr later ↦ (let same : offset ≡ at + n = omega (arith, l, later) in here (subst (λ k. OccursAt needle us k) same occurs))
  ]

-- ---- whether a needle has units

pub no-units : {X : Type 0} (us : List X) → true ≡ (length us == 0) → us ≡ []
no-units us e = nil_from_length us (grind (arith, e))

pub some-units : {X : Type 0} (us : List X) → false ≡ (length us == 0) → 0 < length us
some-units us e = grind (arith, e)

-- ---- a slice of what is left after two splits, at an offset before which the needle does not occur

module _ {X : Type 0} (number : X → ℕ) (needle us rest here : List X) (at step : ℕ) (left : rest ≡ drop at us) (cut : here ≡ drop step rest)
    (before : (k : ℕ) → k < at → ¬ (OccursAt needle us k)) (skipped : (k : ℕ) → k < step → ¬ (OccursAt needle rest k)) where
  pub none-skipped : (k : ℕ) → k < at + step → ¬ (OccursAt needle us k)
  none-skipped k l occurs = elim (cases_lt k at) [
    | inl earlier ↦ before k earlier occurs
    | inr later ↦ (let same : k ≡ at + (k - at) = omega (arith, later) in
        let there : OccursAt needle us (at + (k - at)) = subst (λ n. OccursAt needle us n) same occurs in
        skipped (k - at) (omega (arith, l, later)) (subst (λ xs. OccursAt needle xs (k - at)) (sym left) (occurs-left needle us at (k - at) there)))
  ]

  pub occurs-there : at + step ≤ length us → OccursAt needle here 0 → OccursAt needle us (at + step)
  occurs-there within occurs = occurs-cut number needle us at step within (subst (λ xs. OccursAt needle xs 0) (cut ∙ ap (drop step) left) occurs)

  pub none-tried : ¬ (OccursAt needle here 0) → (k : ℕ) → k < at + (step + 1) → ¬ (OccursAt needle us k)
  none-tried none = none-through number needle us at step none-skipped (λ occurs. none (subst (λ xs. OccursAt needle xs 0) (sym (cut ∙ ap (drop step) left)) (cut-occurs number needle us at step occurs)))

pub none-as : {X : Type 0} (needle sought us : List X) (end : ℕ) → sought ≡ needle → ((k : ℕ) → k < end → ¬ (OccursAt needle us k)) → (k : ℕ) → k < end → ¬ (OccursAt sought us k)
none-as needle sought us end e none k l occurs = none k l (subst (λ xs. OccursAt xs us k) e occurs)
