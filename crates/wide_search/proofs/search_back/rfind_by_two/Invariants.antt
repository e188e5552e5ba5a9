use Rattle.std.proofs.Common.{ℕ, ◌<◌, ◌≤◌, ◌+◌, ◌-◌, ◌*◌, length}
use Rattle.wide_search.specs.Occurrences.{OccursAt}
use Rattle.wide_steps.specs.Counted.{counted}
use Rattle.wide_search.proofs.Wasted.{IsPaid}
use Rattle.wide_search.proofs.search_back.rfind_by_two.Given as goal

-- The needle occurs at none of the offsets from `at` on. Offsets are counted from the end for what was spent.
abbrev pub invariant-loop-at : goal.invariant-loop-at
invariant-loop-at g l = record {
  within : l.at + l.probe.distance ≤ length l.units;
  since : l.at ≤ l.since;
  below : l.since ≤ l.end;
  beyond : (later : ℕ) → l.at ≤ later → ¬ (OccursAt (g.P.Needle.sought l.needle) l.units later);
  grows : length l.units < 144115188075855872 → counted l.fn.steps ≤ counted l.steps;
  few : length (g.P.Needle.sought l.needle) ≤ 2 → 0 < l.at → counted l.steps + 60 * l.at ≤ counted l.fn.steps + 60 * l.end;
  paid : length l.units < 144115188075855872 → 2 < length (g.P.Needle.sought l.needle) → 0 < l.at → IsPaid (counted l.fn.steps) (length (g.P.Needle.sought l.needle)) (l.end - l.since) (l.end - l.at) l.costs.wasted (counted l.steps);
  most : length l.units < 144115188075855872 → counted l.steps ≤ counted l.fn.steps + 60 * (l.end - l.at) + 146 * length (g.P.Needle.sought l.needle) + 2;
}

abbrev pub decreases-loop-at : goal.decreases-loop-at
decreases-loop-at g l = l.at
