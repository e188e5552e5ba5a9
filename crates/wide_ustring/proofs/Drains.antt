-- What successive calls of a drain return.
use Rattle.std.proofs.Common.{length, refl, ap, subst, ◌∙◌, [], ◌∷◌}
use Rattle.std.specs.Iterator.Runs.{YieldsInOrder, YieldsInReverse}
use Rattle.std.proofs.iter.runs.Sources.{from_front, from_back, as_is, as_is_back}
use Rattle.wide_ustring.specs.Drain.{drain_rest, DrainGives, DrainGivesBack, DrainKeeps, DrainStays}
use Rattle.wide_ustring.specs.declared.iter.Drain.{Drain}

module _ {C A : Type 0} where
  pub drain_in_order : YieldsInOrder (DrainGives {C = C} {A = A}) drain_rest
  drain_in_order p s = as_is p (drain_rest p.from) (from_front (DrainGives {C = C} {A = A})
      (λ x. x) drain_rest (λ s t h. ap length h.0.0) (λ s x t h. h.0) p s)

  pub drain_in_reverse : YieldsInReverse (DrainGivesBack {C = C} {A = A}) drain_rest
  drain_in_reverse p s = as_is_back p (drain_rest p.from)
      (from_back (DrainGivesBack {C = C} {A = A}) (λ x. x) drain_rest
      (λ s t h. ap length h.0.0) (λ s x t h. h.0) p s)

  pub drain_stays : (d : Drain C A) → DrainStays d
  drain_stays d [] later y = subst (DrainKeeps d) y (record { lender = refl; leaves = refl; capacity = refl })
  drain_stays d (x ∷ xs) later y =
      let first = y.1.1 in
      let rest = drain_stays y.0 xs later y.2 in
      record { lender = rest.lender ∙ first.lender; leaves = rest.leaves ∙ first.leaves; capacity = rest.capacity ∙ first.capacity }
