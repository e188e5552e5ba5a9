-- Lists that compare as equal are equal.
use Rattle.std.proofs.Common.{◌≡◌, ℕ, List, [], ◌∷◌, refl, sym, ◌∙◌, ap, arith, inl, inr, Ordering, Less, Equal, Greater}
use Rattle.std.proofs.lemmas.Bool.{cases_lt}
use Rattle.std.specs.Ordering.{nat_cmp, ordering_then}
use Rattle.std.specs.Cmp.{nat_cmp_is}
use Rattle.std.specs.Cmp.Lexicographic.{slice_cmp}

then-equal : (a b : Ordering) → ordering_then a b ≡ Equal → (a ≡ Equal) × (b ≡ Equal)
then-equal Less b e = absurd cc
then-equal Equal b e = (refl, e)
then-equal Greater b e = absurd cc

numbers-equal : (x y : ℕ) → nat_cmp x y ≡ Equal → x ≡ y
numbers-equal x y e = elim (cases_lt x y) [
  | inl less ↦ absurd (let f : Less ≡ Equal = nat_cmp_is x y Less less ∙ e in cc)
  | inr from ↦ elim (cases_lt y x) [
    | inl more ↦ absurd (let f : Greater ≡ Equal = nat_cmp_is x y Greater more ∙ e in cc)
    | inr upto ↦ omega (arith, from, upto)
  ]
]

pub lists-equal : (us vs : List ℕ) → slice_cmp nat_cmp us vs ≡ Equal → us ≡ vs
lists-equal [] [] e = refl
lists-equal [] (v ∷ vs) e = absurd cc
lists-equal (u ∷ us) [] e = absurd cc
lists-equal (u ∷ us) (v ∷ vs) e =
    let both = then-equal (nat_cmp u v) (slice_cmp nat_cmp us vs) e in
    ap (λ w. w ∷ us) (numbers-equal u v both.0) ∙ ap (λ ws. v ∷ ws) (lists-equal us vs both.1)

same-number : (x : ℕ) → nat_cmp x x ≡ Equal
same-number x = sym (nat_cmp_is x x Equal refl)

pub same-list : (us : List ℕ) → slice_cmp nat_cmp us us ≡ Equal
same-list [] = refl
same-list (u ∷ us) = ap (λ o. ordering_then o (slice_cmp nat_cmp us us)) (same-number u) ∙ same-list us
