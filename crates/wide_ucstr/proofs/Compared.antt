-- The order of lists that are each followed by a NUL.
use Rattle.std.proofs.Common.{◌≡◌, ℕ, zero, suc, ◌<◌, List, [], ◌∷◌, ◌++◌, refl, sym, ap, arith, Less, Greater}
use Rattle.std.specs.Ordering.{nat_cmp, ordering_then}
use Rattle.std.specs.Cmp.{nat_cmp_is}
use Rattle.std.specs.Cmp.Lexicographic.{slice_cmp}
use Rattle.wide_unit.specs.Nul.{HasNoNul}

first_above : (x : ℕ) (xs : List ℕ) → HasNoNul (x ∷ xs) → 0 < x
first_above zero xs none = absurd (none 0 (omega arith) (omega arith, refl))
first_above (suc n) xs none = omega arith

none_after : (x : ℕ) (xs : List ℕ) → HasNoNul (x ∷ xs) → HasNoNul xs
none_after x xs none i lt nul = none (suc i) (omega (arith, lt)) (omega (arith, lt), nul.1)

pub order_of_contents : (xs ys : List ℕ) → HasNoNul xs → HasNoNul ys → slice_cmp nat_cmp (xs ++ 0 ∷ []) (ys ++ 0 ∷ []) ≡ slice_cmp nat_cmp xs ys
order_of_contents [] [] a b = refl
order_of_contents [] (y ∷ ys) a b = ap (λ o. ordering_then o (slice_cmp nat_cmp [] (ys ++ 0 ∷ []))) (sym (nat_cmp_is 0 y Less (first_above y ys b)))
order_of_contents (x ∷ xs) [] a b = ap (λ o. ordering_then o (slice_cmp nat_cmp (xs ++ 0 ∷ []) [])) (sym (nat_cmp_is x 0 Greater (first_above x xs a)))
order_of_contents (x ∷ xs) (y ∷ ys) a b = ap (ordering_then (nat_cmp x y)) (order_of_contents xs ys (none_after x xs a) (none_after y ys b))
