-- Two lists are the same up to the first lane of a comparison that says that they differ.
use Rattle.std.proofs.Common.{◌≡◌, ◌++◌, drop, subst, ℕ, ◌+◌, ◌-◌, ◌%◌, ◌^◌, ◌≤◌, Bool, not, cond, eqb, List, [], ◌∷◌, length, map, take, refl, sym, ap, ◌∙◌, arith, inl, inr, suc}
use Rattle.std.proofs.lemmas.List.{take_all, take-append-drop, drop-take, take-map, take-take, map-id}
use Rattle.std.proofs.lemmas.List.Sums.{prefix_len-le-length}
use Rattle.std.proofs.lemmas.Bool.{eq-eqb, ne_eqb, cond-true, cond-false}
use Rattle.std.proofs.lemmas.Bool.Decides.{eqb_tells}
use Rattle.std.proofs.lemmas.Simd.{tops_compared, mask_l-mod, length-zip2, first_set_mask_l}
use Rattle.std.specs.Simd.Lanes.{mask_l, zip2, top}
use Rattle.std.specs.List.{prefix_len}
use lib.Count.{count_trailing_zeros}
use mir.Syntax.{Width}
use mir.Val.{bits, hbits}

-- Whether two lanes differ.
abbrev differ : ℕ → ℕ → Bool
differ a b = not (eqb a b)

-- How many lanes come before the first that differs.
abbrev before : List ℕ → List ℕ → ℕ
before us vs = prefix_len (λ b. not b) (zip2 differ us vs)

-- If an element before both lists is the same, one more element of them is.
same-after : (u w : ℕ) (us vs : List ℕ) (k : ℕ) → u ≡ w → take k us ≡ take k vs → take (1 + k) (u ∷ us) ≡ take (1 + k) (w ∷ vs)
same-after u w us vs k same rest = let e : 1 + k ≡ suc k = omega arith in rw e (cc (same, rest))

same-before : (us vs : List ℕ) → take (before us vs) us ≡ take (before us vs) vs
same-before [] [] = refl
same-before [] (w ∷ vs) = refl
same-before (u ∷ us) [] = refl
same-before (u ∷ us) (w ∷ vs) = elim (eqb_tells u w) [
  | inl same ↦ (let f = same.0 in rw f (same-after u w us vs (before us vs) same.1 (same-before us vs)))
  | inr other ↦ (let f = other.0 in rw f refl)
]

-- Two blocks of n lanes of width w, and the mask of the lanes that differ.
module _ (w : Width) (n : ℕ) (small : n ≤ 64) (us vs : List ℕ) (long : length us ≡ n) (long2 : length vs ≡ n) where
  abbrev mask : ℕ
  mask = mask_l (map (top (hbits w)) (zip2 (λ a b. cond (differ a b) (2 ^ bits w - 1) 0) (take n us) (take n vs))) % 2 ^ 64

  lanes : length (zip2 differ us vs) ≡ n
  lanes = length-zip2 differ us vs (long ∙ sym long2) ∙ long

  mask-is : mask ≡ mask_l (zip2 differ us vs)
  mask-is =
      let whole : take n us ≡ us = take_all n us (omega (arith, long)) in
      let whole2 : take n vs ≡ vs = take_all n vs (omega (arith, long2)) in
      ap (λ xs. mask_l (map (top (hbits w)) (zip2 (λ a b. cond (differ a b) (2 ^ bits w - 1) 0) xs (take n vs))) % 2 ^ 64) whole
      ∙ ap (λ xs. mask_l (map (top (hbits w)) (zip2 (λ a b. cond (differ a b) (2 ^ bits w - 1) 0) us xs)) % 2 ^ 64) whole2
      ∙ ap (λ bs. mask_l bs % 2 ^ 64) (tops_compared w differ us vs)
      ∙ mask_l-mod (zip2 differ us vs) 64 (omega (arith, lanes, small))

  counted : cond (eqb mask 0) n (count_trailing_zeros 64 mask) ≡ before us vs
  counted =
      ap (λ b. cond (eqb b 0) n (count_trailing_zeros 64 b)) (mask-is ∙ ap mask_l (sym (map-id (zip2 differ us vs))))
      ∙ first_set_mask_l (λ (b : Bool). b) (zip2 differ us vs) n lanes small

  first : ¬ (mask ≡ 0) → count_trailing_zeros 64 mask ≡ before us vs
  first some = sym (cond-false _ _ _ (ne_eqb _ _ some)) ∙ counted

  pub all-same : mask ≡ 0 → us ≡ vs
  all-same none =
      let same : take n us ≡ take n vs = subst (λ k. take k us ≡ take k vs) (sym counted ∙ cond-true _ _ _ (eq-eqb _ _ none)) (same-before us vs) in
      sym (take_all n us (omega (arith, long))) ∙ same ∙ take_all n vs (omega (arith, long2))

  pub first-within : ¬ (mask ≡ 0) → count_trailing_zeros 64 mask ≤ n
  first-within some = omega (arith, first some, lanes, prefix_len-le-length (λ b. not b) (zip2 differ us vs))

  pub first-same : ¬ (mask ≡ 0) → take (count_trailing_zeros 64 mask) us ≡ take (count_trailing_zeros 64 mask) vs
  first-same some = subst (λ k. take k us ≡ take k vs) (sym (first some)) (same-before us vs)

module _ {X : Type 0} where
  -- Lists that are the same in a prefix and at the beginning of the block after it are the same up to there.
  pub same-further : (xs ys : List X) (at m n : ℕ) → n ≤ m → take at xs ≡ take at ys → take n (take m (drop at xs)) ≡ take n (take m (drop at ys)) → take (at + n) xs ≡ take (at + n) ys
  same-further xs ys at m n le before here =
      let e : take n (drop at xs) ≡ take n (drop at ys) = sym (take-take n m (drop at xs) le) ∙ here ∙ take-take n m (drop at ys) le in
      sym (take-append-drop at (take (at + n) xs))
      ∙ ap (λ zs. take at (take (at + n) xs) ++ zs) (drop-take at n xs ∙ e ∙ sym (drop-take at n ys))
      ∙ ap (λ zs. zs ++ drop at (take (at + n) ys)) (take-take at (at + n) xs (omega arith) ∙ before ∙ sym (take-take at (at + n) ys (omega arith)))
      ∙ take-append-drop at (take (at + n) ys)

  -- Lists that are the same in a prefix are the same in a shorter one.
  pub same-shorter : (xs ys : List X) (m n : ℕ) → m ≤ n → take n xs ≡ take n ys → take m xs ≡ take m ys
  same-shorter xs ys m n le same = sym (take-take m n xs le) ∙ ap (take m) same ∙ take-take m n ys le

  module _ (number : X → ℕ) (one : (x y : X) → number x ≡ number y → x ≡ y) where
    same-numbers : (xs ys : List X) → map number xs ≡ map number ys → xs ≡ ys
    same-numbers [] [] same = refl
    same-numbers [] (y ∷ ys) same = cc same
    same-numbers (x ∷ xs) [] same = cc same
    same-numbers (x ∷ xs) (y ∷ ys) same =
        let head : number x ≡ number y = cc same in
        let tail : map number xs ≡ map number ys = cc same in
        let e = one x y head in
        let f = same-numbers xs ys tail in
        cc (e, f)

    -- Units whose numbers are the same in a prefix are the same there.
    pub same-units : (xs ys : List X) (us vs : List ℕ) (n : ℕ) → us ≡ map number xs → vs ≡ map number ys → take n us ≡ take n vs → take n xs ≡ take n ys
    same-units xs ys us vs n is is2 same =
        same-numbers (take n xs) (take n ys) (sym (take-map number n xs) ∙ ap (take n) (sym is) ∙ same ∙ ap (take n) is2 ∙ take-map number n ys)
