-- Repeated units without a NUL have no NUL.
use Rattle.std.proofs.Common.{ℕ, zero, suc, List, [], ◌∷◌, ◌++◌, map, sym, subst, arith}
use Rattle.std.specs.List.{repeat}
use Rattle.std.proofs.lemmas.List.{map-append}
use Rattle.wide_unit.specs.Nul.{HasNoNul}

no_nul_append : (us vs : List ℕ) → HasNoNul us → HasNoNul vs → HasNoNul (us ++ vs)
no_nul_append [] vs a b offset lt nul = b offset lt nul
no_nul_append (u ∷ us) vs a b zero lt nul = a zero (omega arith) (omega arith, nul.1)
no_nul_append (u ∷ us) vs a b (suc k) lt nul = no_nul_append us vs (λ i l n. a (suc i) (omega (arith, l)) (omega (arith, l), n.1)) b k (omega (arith, lt)) (omega (arith, nul.0), nul.1)

pub no_nul_repeat : {X : Type 0} (number : X → ℕ) (n : ℕ) (xs : List X) → HasNoNul (map number xs) → HasNoNul (map number (repeat n xs))
no_nul_repeat number zero xs none = λ offset lt nul. absurd (omega (arith, lt))
no_nul_repeat number (suc n) xs none = subst HasNoNul (sym (map-append number xs (repeat n xs))) (no_nul_append (map number xs) (map number (repeat n xs)) none (no_nul_repeat number n xs none))
