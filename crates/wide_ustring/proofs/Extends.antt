-- Runs of an iterator that are one item longer, and what `Adds` says if there is an error.
use Rattle.std.proofs.Common.{ℕ, List, [], ◌∷◌, ◌++◌, Option, Some, Result, Ok, Err, subst, sym, refl}
use Rattle.std.specs.Prelude.{IsErr}
use Rattle.std.specs.Iterator.{Yields}
use Rattle.wide_ustring.specs.Extended.{AddsUpTo, Adds}
use Rattle.wide_ustring.specs.Units.{Units}

module _ {S I : Type 0} (steps : S → Option I → S → Type 0) where
  pub Yields-one_more : (s t u : S) (xs : List I) (x : I) → Yields steps s xs t → steps t (Some x) u → Yields steps s (xs ++ x ∷ []) u
  Yields-one_more s t u [] x so_far step = (u, subst (λ j. steps j (Some x) u) (sym so_far) step, refl)
  Yields-one_more s t u (y ∷ ys) x so_far step = (so_far.0, so_far.1, Yields-one_more so_far.0 t u ys x so_far.2 step)

module _ {A E T U S I : Type 0} {becomes : U → S → Type 0} {steps : S → Option I → S → Type 0} {text : I → List ℕ} where
  pub Adds-at_err : (r : Result A E) (source : U) (seen : T → Units ℕ) (old new : T) → IsErr r → AddsUpTo becomes steps text source (seen old).units (seen new).units (seen new).capacity → Adds r becomes steps text source seen old new
  Adds-at_err (Ok x) source seen old new h up_to = absurd (cc h)
  Adds-at_err (Err e) source seen old new h up_to = up_to
