-- Texts that begin with the same character are in the order of what follows it.
use Rattle.std.proofs.Common.{◌≡◌, ℕ, List, ◌∷◌, Ordering, sym, ap, ◌∙◌, arith}
use Rattle.std.specs.Ordering.{nat_cmp, ordering_then}
use Rattle.std.specs.Cmp.Lexicographic.{slice_cmp}

same_number : (x : ℕ) → (o : Ordering) → ordering_then (nat_cmp x x) o ≡ o
same_number x o = grind arith

-- Lists that begin with the same element are in the order of what follows it.
pub cmp-more : (xs ys left rest : List ℕ) (x y : ℕ) → xs ≡ x ∷ left → ys ≡ y ∷ rest → x ≡ y → slice_cmp nat_cmp xs ys ≡ slice_cmp nat_cmp left rest
cmp-more xs ys left rest x y first other same =
    ap (λ zs. slice_cmp nat_cmp zs ys) first ∙ ap (slice_cmp nat_cmp (x ∷ left)) (other ∙ ap (λ z. z ∷ rest) (sym same)) ∙ same_number x (slice_cmp nat_cmp left rest)
