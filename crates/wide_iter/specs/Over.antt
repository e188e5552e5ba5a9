-- An iterator over a source, for which a function returns the list that is left.
use Rattle.std.specs.Prelude.{List, Option, IfSome}
use Rattle.std.specs.Iterator.{YieldsFirst, YieldsLast, YieldsFirstBy, YieldsLastBy}

-- `Fits` is what is known of each item of a source by its type: `IsCodeUnit` for units, `IsScalar` for characters.

module _ {I A : Type 0} (Fits : A → Type 0) (steps : I → Option A → I → Type 0) (rest : I → List A) where
  -- Each call of the source yields the first of the list that `rest` returns.
  pub record GivesFirst : Type 0 where
    pub at : (s : I) (r : Option A) (t : I) → IfSome r Fits → steps s r t → YieldsFirst rest s r t

  -- Each call of the source yields the last of the list that `rest` returns.
  pub record GivesLast : Type 0 where
    pub at : (s : I) (r : Option A) (t : I) → IfSome r Fits → steps s r t → YieldsLast rest s r t

module _ {I A S B C : Type 0} (Fits : A → Type 0) (steps : I → Option A → I → Type 0) (view : B → C) (left : (I → List A) → S → List C) (s : S) (r : Option B) (t : S) where
  -- For each function that returns the list of the source, a call yielded the first of what was left.
  pub record FirstOver : Type 0 where
    pub at : (rest : I → List A) → GivesFirst Fits steps rest → YieldsFirstBy view (left rest) s r t

  -- For each function that returns the list of the source, a call yielded the last of what was left.
  pub record LastOver : Type 0 where
    pub at : (rest : I → List A) → GivesLast Fits steps rest → YieldsLastBy view (left rest) s r t
