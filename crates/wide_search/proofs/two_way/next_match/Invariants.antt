use Rattle.std.proofs.Common.{◌+◌, ◌-◌, ◌*◌, ◌<◌, ◌≤◌, ℕ, length}
use Rattle.wide_search.specs.NextOccurrences.{number_read, OccursFrom}
use Rattle.wide_steps.specs.Counted.{counted}
use Rattle.wide_search.proofs.two_way.next_match.Given as goal

-- The needle occurs at none of the offsets before `at`. Two steps are counted at most for each of them that is passed by
-- itself, and the one more that is allowed pays for a block after sixteen of these.
abbrev pub invariant-loop-at : goal.invariant-loop-at
invariant-loop-at g l = record {
  after : l.from ≤ l.at;
  within : l.at ≤ length l.units;
  some : 0 < l.tries;
  few : l.tries ≤ 16;
  grows : counted l.fn.steps ≤ counted l.steps;
  steps : counted l.steps + 3 * l.from + 16 ≤ counted l.fn.steps + 3 * l.at + l.tries;
  before : (k : ℕ) → l.from ≤ k → k < l.at → ¬ (OccursFrom g.S.Side.BACK (number_read g.S.Side.READ g.C.Unit.number) l.needle l.units k);
}

abbrev pub decreases-loop-at : goal.decreases-loop-at
decreases-loop-at g l = l.last + 1 - l.at
