use Rattle.std.proofs.Common.{◌≡◌, ℕ, ◌∷◌, [], refl, subst, arith}
use Rattle.wide_search.specs.Occurrences.{OccursAt}
use Rattle.wide_search.proofs.laws.worked_occurrences.Goals as goal

pub returns-clause-begins : goal.returns-clause-begins
returns-clause-begins c = (33 ∷ [], refl)

pub returns-clause-begins32 : goal.returns-clause-begins32
returns-clause-begins32 c = (33 ∷ [], refl)

pub returns-clause-ends : goal.returns-clause-ends
returns-clause-ends c = (33 ∷ [], refl)

pub returns-clause-ends32 : goal.returns-clause-ends32
returns-clause-ends32 c = (33 ∷ [], refl)

pub returns-clause-from : goal.returns-clause-from
returns-clause-from c = record {
  here = record { within = omega arith; same = refl };
  after = omega arith;
  before = λ earlier l below occurs.
      let two : earlier ≡ 2 = omega (arith, l, below) in
      let there : OccursAt {A = ℕ} (92 ∷ []) (97 ∷ 92 ∷ 98 ∷ 92 ∷ []) 2 = subst (λ k. OccursAt {A = ℕ} (92 ∷ []) (97 ∷ 92 ∷ 98 ∷ 92 ∷ []) k) two occurs in
      let first : ◌≡◌ {A = ℕ} 98 92 = cc (there.same) in
      omega (arith, first);
}
