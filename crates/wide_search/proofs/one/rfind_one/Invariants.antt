use Rattle.std.proofs.Common.{ℕ, ◌≤◌, ◌∷◌, [], length}
use Rattle.wide_search.specs.Occurrences.{OccursAt}
use Rattle.wide_search.proofs.one.rfind_one.Given as goal

-- The unit is at none of the offsets from `at` on.
abbrev pub invariant-loop-at : goal.invariant-loop-at
invariant-loop-at g l = (l.at ≤ length l.units) × ((later : ℕ) → l.at ≤ later → ¬ (OccursAt (l.unit ∷ []) l.units later))

abbrev pub decreases-loop-at : goal.decreases-loop-at
decreases-loop-at g l = l.at
