use Rattle.std.proofs.Common.{◌≡◌, ◌-◌, ◌+◌, ◌*◌, ◌<◌, ◌≤◌, ℕ, length}
use Rattle.wide_search.specs.NextOccurrences.{number_from, number_read, OccursFrom}
use Rattle.wide_steps.specs.Counted.{counted}
use Rattle.wide_search.proofs.Spent.{IsSpent}
use Rattle.wide_search.proofs.two_way.next_occurrence.Given as goal

-- The needle occurs at none of the offsets before `at`, and its first `known` units match at `at`.
abbrev pub invariant-loop-at : goal.invariant-loop-at
invariant-loop-at g l = record {
  within : l.at ≤ length l.units;
  after : l.from ≤ l.at;
  few : l.known ≤ length l.needle;
  before : (k : ℕ) → l.from ≤ k → k < l.at → ¬ (OccursFrom g.S.Side.BACK (number_read g.S.Side.READ g.C.Unit.number) l.needle l.units k);
  same : (k : ℕ) → k < l.known → number_from g.S.Side.BACK (number_read g.S.Side.READ g.C.Unit.number) l.units (l.at + k) ≡ number_from g.S.Side.BACK (number_read g.S.Side.READ g.C.Unit.number) l.needle k;
  spent : IsSpent (counted l.fn.steps) (length l.needle) l.from l.at (2 * (l.known - l.parts.cut)) l.stop (counted l.steps);
}

abbrev pub decreases-loop-at : goal.decreases-loop-at
decreases-loop-at g l = length l.units - l.at
