-- A sign that one function returns to another is returned as it is.
use Rattle.std.proofs.Common.{◌≡◌, ℤ, Ordering, Less, Equal, Greater, refl, ap, ◌∙◌}
use Rattle.widestring_c.specs.Compared.{sign_of}
use mir.Syntax.{w32}
use mir.Val.{to_z, of_z}

stored : (o : Ordering) → to_z w32 (of_z w32 (sign_of o)) ≡ sign_of o
stored Less = refl
stored Equal = refl
stored Greater = refl

pub returned : (z : ℤ) (o : Ordering) → z ≡ sign_of o → to_z w32 (of_z w32 z) ≡ sign_of o
returned z o e = ap (λ x. to_z w32 (of_z w32 x)) e ∙ stored o
