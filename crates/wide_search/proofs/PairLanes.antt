-- What the masks of blocks say of two lists.
use Rattle.std.proofs.Common.{◌≡◌, ℕ, suc, zero, ◌+◌, ◌-◌, ◌*◌, ◌%◌, ◌^◌, ◌<◌, ◌≤◌, Bool, true, false, not, ◌&&◌, ◌||◌, cond, eqb, List, [], ◌∷◌, length, get_or, map, take, drop, replicate, bit_and, bit_or, refl, sym, ap, ◌∙◌, subst, arith, get_or-take, get_or-drop, length-take, length-drop, inl, inr, pow_mono}
use Rattle.std.proofs.lemmas.Bool.{cases_lt}
use Rattle.std.proofs.lemmas.List.{map-id, take_all, length-map, take-map, drop-map}
use Rattle.std.proofs.lemmas.List.Sums.{prefix_len-le-length, prefix_len_passes}
use Rattle.std.proofs.lemmas.Nat.{leading_top}
use native.Mathlib.Numerals.{unary_clauses}
use Rattle.std.proofs.lemmas.Simd.{trailing_mask_l, mask_l-mod, mask_l-lt, length-zip2, get_or-zip2}
use Rattle.std.specs.Simd.Lanes.{mask_l, zip2, top}
use Rattle.std.specs.List.{prefix_len}
use lib.Count.{count_trailing_zeros, count_leading_zeros, leading_of_zero}
use Rattle.wide_search.specs.Probes.{are_either}
use Rattle.wide_search.specs.declared.either.Either.{Either}

-- ---- a mask and its bits

-- No bit is set from number m on, if the mask is less than 2 to the power of m.
pub unset_from : (bs : List Bool) (m k : ℕ) → mask_l bs < 2 ^ m → m ≤ k → get_or bs k false ≡ false
unset_from [] m k below le = refl
unset_from (true ∷ bs) zero k below le = absurd (omega (arith, below))
unset_from (false ∷ bs) zero zero below le = refl
unset_from (false ∷ bs) zero (suc k) below le = unset_from bs zero k (omega (arith, below)) (omega arith)
unset_from (b ∷ bs) (suc m) zero below le = absurd (omega (arith, le))
unset_from (true ∷ bs) (suc m) (suc k) below le = let e : 2 ^ suc m ≡ 2 * 2 ^ m = simp unary_clauses (omega arith) in unset_from bs m k (omega (arith, below, e)) (omega (arith, le))
unset_from (false ∷ bs) (suc m) (suc k) below le = let e : 2 ^ suc m ≡ 2 * 2 ^ m = simp unary_clauses (omega arith) in unset_from bs m k (omega (arith, below, e)) (omega (arith, le))

not_true : (b : Bool) → not b ≡ true → b ≡ false
not_true true h = cc
not_true false h = refl

-- The lowest bit that is set, and the bits below it.
lowest : (bs : List Bool) → length bs ≤ 64 → 0 < mask_l bs → count_trailing_zeros 64 (mask_l bs) ≡ prefix_len (λ b. not b) bs
lowest bs long some =
    let same : map (λ (b : Bool). b) bs ≡ bs = map-id bs in
    let h = trailing_mask_l (λ (b : Bool). b) 64 bs long (subst (λ cs. 0 < mask_l cs) (sym same) some) in
    subst (λ cs. count_trailing_zeros 64 (mask_l cs) ≡ prefix_len (λ b. not b) bs) same h

-- The lowest bit that is set is one of the bits.
pub lowest-within : (bs : List Bool) → length bs ≤ 64 → 0 < mask_l bs → count_trailing_zeros 64 (mask_l bs) ≤ length bs
lowest-within bs long some = let e = lowest bs long some in let h = prefix_len-le-length (λ b. not b) bs in omega (arith, e, h)

-- No bit below the lowest one that is set is set.
pub unset_below : (bs : List Bool) → length bs ≤ 64 → 0 < mask_l bs → (k : ℕ) → k < count_trailing_zeros 64 (mask_l bs) → get_or bs k false ≡ false
unset_below bs long some k l = not_true _ (prefix_len_passes (λ b. not b) bs k false (let e = lowest bs long some in omega (arith, e, l)))

-- The bits above the highest one that is set.
pub highest : (bs : List Bool) → length bs ≤ 64 → (64 - count_leading_zeros 64 (mask_l bs) ≤ length bs) × ((k : ℕ) → 64 - count_leading_zeros 64 (mask_l bs) ≤ k → get_or bs k false ≡ false)
highest bs long = elim (cases_lt 0 (mask_l bs)) [
  | inl some ↦ (
      let below : mask_l bs < 2 ^ length bs = mask_l-lt bs in
      let small : mask_l bs < 2 ^ 64 = (let h = pow_mono long in omega (arith, below, h)) in
      let top = leading_top 64 (mask_l bs) some small in
      let j = top.0 in
      let within : suc j ≤ length bs = elim (cases_lt j (length bs)) [
        | inl l ↦ omega (arith, l)
        | inr ge ↦ (let h = pow_mono ge in absurd (omega (arith, h, below, top.2)))
      ] in
      (omega (arith, top.1, within), λ k l. unset_from bs (suc j) k top.3 (omega (arith, l, top.1)))
      )
  | inr none ↦ (
      let zero_mask : mask_l bs ≡ 0 = omega (arith, none) in
      let all : count_leading_zeros 64 (mask_l bs) ≡ 64 = ap (count_leading_zeros 64) zero_mask ∙ leading_of_zero 64 in
      (omega (arith, all), λ k l. unset_from bs 0 k (subst (λ n. n < 2 ^ 0) (sym zero_mask) (omega arith)) (omega arith))
      )
]

-- ---- the elements of two lists in a block

module _ (t : ℕ → ℕ → Bool) (xs ys : List ℕ) (at n : ℕ) (front : at + n ≤ length xs) (back : at + n ≤ length ys) where
  abbrev pub lanes : List Bool
  lanes = zip2 t (take n (drop at xs)) (take n (drop at ys))

  pub lanes-length : length lanes ≡ n
  lanes-length = length-zip2 t (take n (drop at xs)) (take n (drop at ys)) (simp (length-take, length-drop) (omega arith)) ∙ simp (length-take, length-drop) (omega arith)

  pub lane : (k : ℕ) → k < n → get_or lanes k false ≡ t (get_or xs (at + k) 0) (get_or ys (at + k) 0)
  lane k l =
      let long : length (take n (drop at xs)) ≡ n = simp (length-take, length-drop) (omega arith) in
      let long2 : length (take n (drop at ys)) ≡ n = simp (length-take, length-drop) (omega arith) in
      get_or-zip2 t (take n (drop at xs)) (take n (drop at ys)) k 0 0 false (omega (arith, long)) (omega (arith, long2))
      ∙ ap (λ u. t u (get_or (take n (drop at ys)) k 0)) (get_or-take n (drop at xs) k 0 l ∙ get_or-drop at xs k 0)
      ∙ ap (λ u. t (get_or xs (at + k) 0) u) (get_or-take n (drop at ys) k 0 l ∙ get_or-drop at ys k 0)

  pub lane-unset : (k : ℕ) → k < n → get_or lanes k false ≡ false → ¬ (t (get_or xs (at + k) 0) (get_or ys (at + k) 0) ≡ true)
  lane-unset k l unset set = cc (sym (lane k l) ∙ unset, set)

-- ---- the mask of a block of two lists

module _ {X : Type 0} (number : X → ℕ) (t : ℕ → ℕ → Bool) (front back : List X) (at n m bits : ℕ) (small : n ≤ 64) (whole : m ≡ n) (fits : at + n ≤ length front) (fits2 : at + n ≤ length back)
    (mask : bits ≡ mask_l (zip2 t (map number (take m (drop at front))) (map number (take m (drop at back))))) where
  space : at + n ≤ length (map number front)
  space = simp length-map fits

  space2 : at + n ≤ length (map number back)
  space2 = simp length-map fits2

  abbrev block : List Bool
  block = lanes t (map number front) (map number back) at n space space2

  long : length block ≡ n
  long = lanes-length t (map number front) (map number back) at n space space2

  is : bits ≡ mask_l block
  is =
      let cut : (zs : List X) → map number (take m (drop at zs)) ≡ take n (drop at (map number zs)) = λ zs.
      ap (λ k. map number (take k (drop at zs))) whole ∙ sym (take-map number n (drop at zs)) ∙ ap (take n) (sym (drop-map number at zs)) in
      mask ∙ ap (λ us. mask_l (zip2 t us (map number (take m (drop at back))))) (cut front) ∙ ap (λ us. mask_l (zip2 t (take n (drop at (map number front))) us)) (cut back)

  apart : (k : ℕ) → k < n → get_or block k false ≡ false → ¬ (t (get_or (map number front) (at + k) 0) (get_or (map number back) (at + k) 0) ≡ true)
  apart k l unset = lane-unset t (map number front) (map number back) at n space space2 k l unset

  pub none-before : bits ≡ 0 → (k : ℕ) → k < n → ¬ (t (get_or (map number front) (at + k) 0) (get_or (map number back) (at + k) 0) ≡ true)
  none-before clear k l = apart k l (unset_from block 0 k (omega (arith, is, clear)) (omega arith))

  pub first-within : ¬ (bits ≡ 0) → count_trailing_zeros 64 bits ≤ n
  first-within set =
      let h = lowest-within block (omega (arith, long, small)) (grind (arith, is, set)) in
      subst (λ b. count_trailing_zeros 64 b ≤ n) (sym is) (omega (arith, h, long))

  pub first-before : ¬ (bits ≡ 0) → (k : ℕ) → k < count_trailing_zeros 64 bits → ¬ (t (get_or (map number front) (at + k) 0) (get_or (map number back) (at + k) 0) ≡ true)
  first-before set k l =
      let below : k < count_trailing_zeros 64 (mask_l block) = subst (λ b. k < count_trailing_zeros 64 b) is l in
      let within = first-within set in
      apart k (omega (arith, l, within)) (unset_below block (omega (arith, long, small)) (grind (arith, is, set)) k below)

  pub last-within : 64 - count_leading_zeros 64 bits ≤ n
  last-within = let h = (highest block (omega (arith, long, small))).0 in subst (λ b. 64 - count_leading_zeros 64 b ≤ n) (sym is) (omega (arith, h, long))

  pub last-beyond : (k : ℕ) → 64 - count_leading_zeros 64 bits ≤ k → k < n → ¬ (t (get_or (map number front) (at + k) 0) (get_or (map number back) (at + k) 0) ≡ true)
  last-beyond k le l = apart k l ((highest block (omega (arith, long, small))).1 k (subst (λ b. 64 - count_leading_zeros 64 b ≤ k) is le))

-- ---- what the lanes test

module _ (h m : ℕ) (tops : (p p2 q q2 : Bool) → top h (bit_and (bit_or (cond p m 0) (cond p2 m 0)) (bit_or (cond q m 0) (cond q2 m 0))) ≡ ((p || p2) && (q || q2))) where
  -- The lanes that are one of two units.
  abbrev pub either : ℕ → Either ℕ → List ℕ → List ℕ
  either n values us = zip2 bit_or (zip2 (λ a b. cond (eqb a b) m 0) us (replicate n values.one)) (zip2 (λ a b. cond (eqb a b) m 0) us (replicate n values.other))

  tested : (first last : Either ℕ) (n : ℕ) (us vs : List ℕ) → length us ≡ n → length vs ≡ n → map (top h) (zip2 bit_and (either n first us) (either n last vs)) ≡ zip2 (are_either (λ u. u) first last) us vs
  tested first last zero [] [] long long2 = refl
  tested first last zero [] (x ∷ vs) long long2 = absurd (omega (arith, long2))
  tested first last zero (u ∷ us) vs long long2 = absurd (omega (arith, long))
  tested first last (suc n) [] vs long long2 = absurd (omega (arith, long))
  tested first last (suc n) (u ∷ us) [] long long2 = absurd (omega (arith, long2))
  tested first last (suc n) (u ∷ us) (x ∷ vs) long long2 =
      ap (λ b. b ∷ map (top h) (zip2 bit_and (either n first us) (either n last vs))) (tops (eqb u first.one) (eqb u first.other) (eqb x last.one) (eqb x last.other))
      ∙ ap (λ bs. are_either (λ u. u) first last u x ∷ bs) (tested first last n us vs (omega (arith, long)) (omega (arith, long2)))

  pair_block : (n : ℕ) → n ≤ 64 → (first last : Either ℕ) (us vs : List ℕ) → length us ≡ n → length vs ≡ n
      → mask_l (map (top h) (zip2 bit_and (either n first (take n us)) (either n last (take n vs)))) % 2 ^ 64 ≡ mask_l (zip2 (are_either (λ u. u) first last) (map (λ u. u) us) (map (λ u. u) vs))
  pair_block n small first last us vs long long2 =
      let whole : take n us ≡ us = take_all n us (omega (arith, long)) in
      let whole2 : take n vs ≡ vs = take_all n vs (omega (arith, long2)) in
      let test = are_either (λ u. u) first last in
      let lanes = zip2 test us vs in
      ap (λ xs. mask_l (map (top h) (zip2 bit_and (either n first xs) (either n last (take n vs)))) % 2 ^ 64) whole
      ∙ ap (λ xs. mask_l (map (top h) (zip2 bit_and (either n first us) (either n last xs))) % 2 ^ 64) whole2
      ∙ ap (λ bs. mask_l bs % 2 ^ 64) (tested first last n us vs long long2)
      ∙ mask_l-mod lanes 64 (let e = length-zip2 test us vs (long ∙ sym long2) in omega (arith, e, long))
      ∙ ap (λ xs. mask_l (zip2 test xs vs)) (sym (map-id us))
      ∙ ap (λ xs. mask_l (zip2 test (map (λ u. u) us) xs)) (sym (map-id vs))

pub tops16 : (p p2 q q2 : Bool) → top 15 (bit_and (bit_or (cond p (2 ^ 16 - 1) 0) (cond p2 (2 ^ 16 - 1) 0)) (bit_or (cond q (2 ^ 16 - 1) 0) (cond q2 (2 ^ 16 - 1) 0))) ≡ ((p || p2) && (q || q2))
tops16 true true true true = refl
tops16 true true true false = refl
tops16 true true false true = refl
tops16 true true false false = refl
tops16 true false true true = refl
tops16 true false true false = refl
tops16 true false false true = refl
tops16 true false false false = refl
tops16 false true true true = refl
tops16 false true true false = refl
tops16 false true false true = refl
tops16 false true false false = refl
tops16 false false true true = refl
tops16 false false true false = refl
tops16 false false false true = refl
tops16 false false false false = refl

pub tops32 : (p p2 q q2 : Bool) → top 31 (bit_and (bit_or (cond p (2 ^ 32 - 1) 0) (cond p2 (2 ^ 32 - 1) 0)) (bit_or (cond q (2 ^ 32 - 1) 0) (cond q2 (2 ^ 32 - 1) 0))) ≡ ((p || p2) && (q || q2))
tops32 true true true true = refl
tops32 true true true false = refl
tops32 true true false true = refl
tops32 true true false false = refl
tops32 true false true true = refl
tops32 true false true false = refl
tops32 true false false true = refl
tops32 true false false false = refl
tops32 false true true true = refl
tops32 false true true false = refl
tops32 false true false true = refl
tops32 false true false false = refl
tops32 false false true true = refl
tops32 false false true false = refl
tops32 false false false true = refl
tops32 false false false false = refl

pub pair_block16 : (first last : Either ℕ) (us vs : List ℕ) → length us ≡ 16 → length vs ≡ 16
    → mask_l (map (top 15) (zip2 bit_and (either 15 (2 ^ 16 - 1) tops16 16 first (take 16 us)) (either 15 (2 ^ 16 - 1) tops16 16 last (take 16 vs)))) % 2 ^ 64
    ≡ mask_l (zip2 (are_either (λ u. u) first last) (map (λ u. u) us) (map (λ u. u) vs))
pair_block16 first last us vs long long2 =
    pair_block 15 (2 ^ 16 - 1) tops16 16 (omega arith) first last us vs long long2

pub pair_block32 : (first last : Either ℕ) (us vs : List ℕ) → length us ≡ 8 → length vs ≡ 8
    → mask_l (map (top 31) (zip2 bit_and (either 31 (2 ^ 32 - 1) tops32 8 first (take 8 us)) (either 31 (2 ^ 32 - 1) tops32 8 last (take 8 vs)))) % 2 ^ 64
    ≡ mask_l (zip2 (are_either (λ u. u) first last) (map (λ u. u) us) (map (λ u. u) vs))
pair_block32 first last us vs long long2 =
    pair_block 31 (2 ^ 32 - 1) tops32 8 (omega arith) first last us vs long long2
