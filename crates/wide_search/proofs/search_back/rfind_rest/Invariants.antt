use Rattle.std.proofs.Common.{ℕ, ◌+◌, ◌-◌, ◌≤◌, length}
use Rattle.wide_search.specs.Occurrences.{OccursAt}
use Rattle.wide_steps.specs.Counted.{counted}
use Rattle.wide_search.proofs.Wasted.{IsTried}
use Rattle.wide_search.proofs.search_back.rfind_rest.Given as goal

-- The needle occurs at none of the offsets from `at` on.
abbrev pub invariant-loop-at : goal.invariant-loop-at
invariant-loop-at g l = record {
  within : l.at ≤ length l.units;
  below : l.at ≤ l.last;
  beyond : (later : ℕ) → l.at ≤ later → ¬ (OccursAt (g.P.Needle.sought l.needle) l.units later);
  near : l.last ≤ l.stop + 48;
  tried : IsTried (length (g.P.Needle.sought l.needle)) (48 - (l.last - l.at)) (counted l.fn.steps) (counted l.steps);
}

abbrev pub decreases-loop-at : goal.decreases-loop-at
decreases-loop-at g l = l.at
