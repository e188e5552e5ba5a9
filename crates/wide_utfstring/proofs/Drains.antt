-- What successive calls of a drain return.
use Rattle.std.proofs.Common.{◌≡◌, ℕ, ◌+◌, ◌-◌, List, [], ◌∷◌, ◌++◌, length, refl, ap, subst, ◌∙◌, arith}
use Rattle.std.specs.Iterator.Runs.{YieldsInOrder, YieldsInReverse}
use Rattle.std.proofs.iter.runs.Sources.{from_front, from_back, as_is, as_is_back}
use Rattle.wide_utferror.specs.declared.error.FaultUnit.{Ghosts as Faults}
use Rattle.wide_unit.specs.declared.unit.Unit.{Ghosts}
use Rattle.wide_forms.specs.EncodingForm.{code_units}
use Rattle.wide_utfstring.specs.Drain.{drain_rest, DrainGives, DrainGivesBack, DrainKeeps, DrainStays}
use Rattle.wide_utfstring.specs.declared.iter.DrainUtf.{DrainUtf}
use Rattle.wide_utfstring.proofs.Drained.{IsTaken, prefix_taken, back_taken}

module _ {C A F : Type 0} {f : Faults C F} {g : Ghosts C} where
  pub drain_in_order : YieldsInOrder (DrainGives {C = C} {A = A} {F = F} {f = f} {g = g}) drain_rest
  drain_in_order p s = as_is p (drain_rest p.from) (from_front (DrainGives {C = C} {A = A} {F = F} {f = f} {g = g})
      (λ c. c) drain_rest (λ s t h. ap length h.0.0) (λ s c t h. h.0) p s)

  pub drain_in_reverse : YieldsInReverse (DrainGivesBack {C = C} {A = A} {F = F} {f = f} {g = g}) drain_rest
  drain_in_reverse p s = as_is_back p (drain_rest p.from)
      (from_back (DrainGivesBack {C = C} {A = A} {F = F} {f = f} {g = g}) (λ c. c) drain_rest
      (λ s t h. ap length h.0.0) (λ s c t h. h.0) p s)

  pub drain_stays : (d : DrainUtf C A F f g) → DrainStays d
  drain_stays d [] later y = subst (DrainKeeps d) y (record { lender = refl; leaves = refl; capacity = refl })
  drain_stays d (c ∷ cs) later y =
      let first = y.1.1 in
      let rest = drain_stays y.0 cs later y.2 in
      record { lender = rest.lender ∙ first.lender; leaves = rest.leaves ∙ first.leaves; capacity = rest.capacity ∙ first.capacity }

  -- What remains after a character is taken from the front or from the back.
  module _ (d : DrainUtf C A F f g) (c : ℕ) (cs : List ℕ) (n : ℕ) (takes : n ≡ length (code_units g.form c)) where
    pub drain_first : drain_rest d ≡ c ∷ cs → IsTaken g.form g.number d.string.now.units d.total d.front d.back n (d.front + n) d.back cs
    drain_first e = prefix_taken g.form g.number d.string.now.units d.total d.front d.back (omega (arith, d.ordered)) (omega (arith, d.ordered)) d.part c cs n takes e

    pub drain_last : drain_rest d ≡ cs ++ c ∷ [] → IsTaken g.form g.number d.string.now.units d.total d.front d.back n d.front (d.back - n) cs
    drain_last e = back_taken g.form g.number d.string.now.units d.total d.front d.back (omega (arith, d.ordered)) (omega (arith, d.ordered)) d.part c cs n takes e
