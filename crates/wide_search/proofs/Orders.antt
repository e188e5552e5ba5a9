-- The order of the numbers, and the reversed one.
use Rattle.std.proofs.Common.{◌≢◌, ℕ, Bool, true, false, arith}
use Rattle.wide_search.specs.Factorizations.{Precedes}

pub Precedes-irreflexive : (reversed : Bool) (a : ℕ) → Precedes reversed a a → ⊥
Precedes-irreflexive false a less = omega (arith, less)
Precedes-irreflexive true a less = omega (arith, less)

pub Precedes-trans : (reversed : Bool) (a b c : ℕ) → Precedes reversed a b → Precedes reversed b c → Precedes reversed a c
Precedes-trans false a b c one two = omega (arith, one, two)
Precedes-trans true a b c one two = omega (arith, one, two)

pub Precedes-total : (reversed : Bool) (a b : ℕ) → a ≢ b → (Precedes reversed a b → ⊥) → Precedes reversed b a
Precedes-total false a b other none = omega (arith, other, none)
Precedes-total true a b other none = omega (arith, other, none)
