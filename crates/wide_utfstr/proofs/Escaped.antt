-- Escapes that are specified for every character.
use Rattle.std.proofs.Common.{◌≡◌, ℕ, List, [], ◌∷◌, Option, Some, None, refl, ap, length, true, arith}
use Rattle.std.specs.Iterator.{YieldsFirst, MakesProgress, at_most}
use Rattle.std.specs.List.{list_all}
use Rattle.std.specs.Prelude.{⊤}

pub all-reported : (cs : List ℕ) → list_all (λ c. true) cs ≡ true
all-reported [] = refl
all-reported (c ∷ cs) = all-reported cs

-- A call that returns the first of the remaining characters leaves fewer.
pub progress-first : {S : Type 0} (left : S → List ℕ) (s t : S) (r : Option ℕ) → YieldsFirst left s r t → MakesProgress (λ _. ⊤) (λ u. at_most (length (left u))) s r t
progress-first left s t None gave = record { on = λ _. tt; keeps = tt; rests = λ finite. finite }
progress-first left s t (Some c) gave = record { on = λ finite. (tt, finite, omega (arith, ap length gave)); keeps = tt; rests = λ _. tt }
