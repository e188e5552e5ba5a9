-- Steps of loops over indices, from both ends.
use Rattle.std.proofs.Common.{◌≡◌, ℕ, zero, suc, ◌+◌, ◌-◌, ◌<◌, ◌≤◌, Bool, true, false, not, ◌&&◌, List, [], ◌∷◌, length, get_or, map, take, drop, inl, inr, refl, sym, ap, ◌∙◌, subst, arith, get_or-take, get_or-drop, length-take}
use Rattle.std.proofs.lemmas.List.{map-id, length-map, take-map, drop-map}
use Rattle.std.proofs.lemmas.List.Sums.{prefix_len_passes, prefix_len-le-length}
use Rattle.wide_forms.specs.Searches.{first_offset, is_unit}
use Rattle.wide_search.specs.Probes.{are_units, are_either, BothMatchAt, EitherMatchesAt}
use Rattle.wide_search.specs.declared.either.Either.{Either}
use Rattle.std.proofs.lemmas.Bool.{cases_lt}

module _ (P : ℕ → Type 0) where
  -- If a property holds at no index before `at`, and at none of the next `step` ones, it holds at none before those
  -- after them.
  pub none-further : (at step : ℕ) → ((k : ℕ) → k < at → ¬ (P k)) → ((k : ℕ) → k < step → ¬ (P (at + k))) → (k : ℕ) → k < at + step → ¬ (P k)
  none-further at step before next k l holds = elim (cases_lt k at) [
    | inl earlier ↦ before k earlier holds
    | inr later ↦ (let e : k ≡ at + (k - at) = omega (arith, later) in next (k - at) (omega (arith, l, later)) (subst P e holds))
  ]

  -- If a property holds at no index before `at`, and at none from there to before `start`, it holds at none before
  -- `start`.
  pub none-until : (at start : ℕ) → ((k : ℕ) → k < at → ¬ (P k)) → ((k : ℕ) → at ≤ k → k < start → ¬ (P k)) → (k : ℕ) → k < start → ¬ (P k)
  none-until at start before next k l holds = elim (cases_lt k at) [
    | inl earlier ↦ before k earlier holds
    | inr later ↦ next k later l holds
  ]

  -- If a property holds at no index from `end` on, and at none of those before `end` from a number on, it holds at none
  -- from that number on.
  pub none-back : (start step end most : ℕ) → start + step ≤ end → ((k : ℕ) → end ≤ k → k < most → ¬ (P k)) → ((k : ℕ) → step ≤ k → start + k < end → ¬ (P (start + k))) → (k : ℕ) → start + step ≤ k → k < most → ¬ (P k)
  none-back start step end most within beyond next k le l holds = elim (cases_lt k end) [
    | inl below ↦ (let e : k ≡ start + (k - start) = omega (arith, le) in next (k - start) (omega (arith, le)) (omega (arith, le, below)) (subst P e holds))
    | inr above ↦ beyond k above l holds
  ]

  -- If a property holds at no index before `at`, and not at `at`, it holds at none up to `at`.
  pub none-more : (at : ℕ) → ((k : ℕ) → k < at → ¬ (P k)) → ¬ (P at) → (k : ℕ) → k < at + 1 → ¬ (P k)
  none-more at before here k l holds = elim (cases_lt k at) [
    | inl earlier ↦ before k earlier holds
    | inr later ↦ (let e : k ≡ at = omega (arith, l, later) in here (subst P e holds))
  ]

  -- If a property holds at no index from `end` on, and not at the one before, it holds at none from that one on.
  pub none-less : (end most : ℕ) → 0 < end → ((k : ℕ) → end ≤ k → k < most → ¬ (P k)) → ¬ (P (end - 1)) → (k : ℕ) → end - 1 ≤ k → k < most → ¬ (P k)
  none-less end most some beyond here k le l holds = elim (cases_lt k end) [
    | inl below ↦ (let e : k ≡ end - 1 = omega (arith, le, below) in here (subst P e holds))
    | inr above ↦ beyond k above l holds
  ]

-- The number of an element.
pub number-at : {X : Type 0} (number : X → ℕ) (xs : List X) (k : ℕ) (d : X) → k < length xs → get_or (map number xs) k 0 ≡ number (get_or xs k d)
number-at number [] k d l = absurd (omega (arith, l))
number-at number (x ∷ xs) zero d l = refl
number-at number (x ∷ xs) (suc k) d l = number-at number xs k d (omega (arith, l))

-- If a test says that none of the units match at an index, none do.
pub apart : {X : Type 0} (number : X → ℕ) (front back : List X) (first last : Either X) (k : ℕ) (u v : X) (equal : Bool) → k < length front → k < length back → u ≡ get_or front k u → v ≡ get_or back k v
    → equal ≡ are_either number first last (number u) (number v) → equal ≡ false → ¬ (EitherMatchesAt number first last (map number front) (map number back) k)
apart number front back first last k u v equal l l2 at at2 tested none holds =
    let test = are_either number first last in
    let e : get_or (map number front) k 0 ≡ number u = number-at number front k u l ∙ ap number (sym at) in
    let e2 : get_or (map number back) k 0 ≡ number v = number-at number back k v l2 ∙ ap number (sym at2) in
    let h : test (number u) (number v) ≡ true = subst (λ n. test (number u) n ≡ true) e2 (subst (λ n. test n (get_or (map number back) k 0) ≡ true) e holds) in
    cc (tested, none, h)

-- What matches in units of one width matches in these units as units of either width.
pub stand-as : (first last v w : Either ℕ) (xs ys us vs : List ℕ) (k : ℕ) → v ≡ first → w ≡ last → us ≡ xs → vs ≡ ys → EitherMatchesAt (λ n. n) first last xs ys k → EitherMatchesAt (λ n. n) v w (map (λ u. u) us) (map (λ u. u) vs) k
stand-as first last v w xs ys us vs k e e2 e3 e4 holds =
    let matches : Either ℕ → Either ℕ → List ℕ → List ℕ → Type 0 = λ a b fs bs. EitherMatchesAt (λ n. n) a b fs bs k in
    let here : matches v w us vs = subst (λ n. matches v n us vs) (sym e2) (subst (λ n. matches n last us vs) (sym e) (subst (λ zs. matches first last us zs) (sym e4) (subst (λ zs. matches first last zs ys) (sym e3) holds))) in
    subst (λ zs. matches v w (map (λ u. u) us) zs) (sym (map-id vs)) (subst (λ zs. matches v w zs vs) (sym (map-id us)) here)

is_false : (b : Bool) → not b ≡ true → b ≡ false
is_false true none = cc
is_false false none = refl

-- If the first of two units does not match at an index, both do not.
pub alone-apart : (first last k : ℕ) (us ws : List ℕ) → is_unit first (get_or us k 0) ≡ false → ¬ (BothMatchAt first last us ws k)
alone-apart first last k us ws none holds =
    let h : (false && is_unit last (get_or ws k 0)) ≡ true = subst (λ b. (b && is_unit last (get_or ws k 0)) ≡ true) none holds in
    cc (h)

-- The units at an index of a slice of both lists are those at an index of the lists.
module _ {X : Type 0} (number : X → ℕ) where
  part-at : (xs : List X) (at n k : ℕ) → k < n → get_or (map number (take n (drop at xs))) k 0 ≡ get_or (map number xs) (at + k) 0
  part-at xs at n k l =
      ap (λ us. get_or us k 0) (sym (take-map number n (drop at xs)) ∙ ap (take n) (sym (drop-map number at xs)))
      ∙ get_or-take n (drop at (map number xs)) k 0 l ∙ get_or-drop at (map number xs) k 0

  pub stand-in-part : (first last : ℕ) (front back : List X) (at n m k : ℕ) → k < n → k < m → BothMatchAt first last (map number front) (map number back) (at + k) → BothMatchAt first last (map number (take n (drop at front))) (map number (take m (drop at back))) k
  stand-in-part first last front back at n m k l l2 holds =
      ap (λ u. are_units first last u (get_or (map number (take m (drop at back))) k 0)) (part-at front at n k l)
      ∙ ap (are_units first last (get_or (map number front) (at + k) 0)) (part-at back at m k l2) ∙ holds

  pub offset-in-part : (test : ℕ → Bool) (xs : List X) (at n : ℕ) → first_offset test (map number (take n (drop at xs))) ≤ n
  offset-in-part test xs at n =
      let h = prefix_len-le-length (λ u. not (test u)) (map number (take n (drop at xs))) in
      let e : length (map number (take n (drop at xs))) ≤ n = simp (length-map, length-take) (omega arith) in
      omega (arith, h, e)

  pub none-in-part : (v : ℕ) (xs : List X) (at n k : ℕ) → at ≤ k → k - at < first_offset (is_unit v) (map number (take n (drop at xs))) → is_unit v (get_or (map number xs) k 0) ≡ false
  none-in-part v xs at n k later l =
      let short = offset-in-part (is_unit v) xs at n in
      let same : get_or (map number (take n (drop at xs))) (k - at) 0 ≡ get_or (map number xs) (at + (k - at)) 0 = part-at xs at n (k - at) (omega (arith, l, short)) in
      let here : at + (k - at) ≡ k = omega (arith, later) in
      let passed : not (is_unit v (get_or (map number (take n (drop at xs))) (k - at) 0)) ≡ true = prefix_len_passes (λ u. not (is_unit v u)) (map number (take n (drop at xs))) (k - at) 0 l in
      is_false (is_unit v (get_or (map number xs) k 0)) (subst (λ i. not (is_unit v (get_or (map number xs) i 0)) ≡ true) here (subst (λ u. not (is_unit v u) ≡ true) same passed))

  pub stand-in-front : (first last : ℕ) (front back : List X) (n k : ℕ) → k < n → BothMatchAt first last (map number front) (map number back) k → BothMatchAt first last (map number (take n front)) (map number (take n back)) k
  stand-in-front first last front back n k l holds =
      let same : k ≡ 0 + k = omega arith in
      stand-in-part first last front back 0 n n k l l (subst (λ i. BothMatchAt first last (map number front) (map number back) i) same holds)
