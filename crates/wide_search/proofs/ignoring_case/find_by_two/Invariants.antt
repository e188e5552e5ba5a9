use Rattle.std.proofs.Common.{ℕ, ◌+◌, ◌-◌, ◌*◌, ◌<◌, ◌≤◌, length, map}
use Rattle.wide_search.specs.Lowercased.{lowercased}
use Rattle.wide_search.specs.Occurrences.{OccursAt}
use Rattle.wide_steps.specs.Counted.{counted}
use Rattle.wide_search.proofs.Wasted.{IsPaid}
use Rattle.wide_search.proofs.ignoring_case.find_by_two.Given as goal

-- The needle occurs at none of the offsets before `at`.
abbrev pub invariant-loop-at : goal.invariant-loop-at
invariant-loop-at g l = record {
  after : l.since ≤ l.at;
  within : l.at ≤ length l.units;
  before : (earlier : ℕ) → earlier < l.at → ¬ (OccursAt (lowercased (map g.C.Unit.number l.needle)) (lowercased (map g.C.Unit.number l.units)) earlier);
  grows : length l.units < 144115188075855872 → counted l.fn.steps ≤ counted l.steps;
  paid : length l.units < 144115188075855872 → l.at < l.end → IsPaid (counted l.fn.steps) (length l.needle) l.since l.at l.costs.wasted (counted l.steps);
  most : length l.units < 144115188075855872 → counted l.steps ≤ counted l.fn.steps + 60 * l.at + 146 * length l.needle + 2;
}

abbrev pub decreases-loop-at : goal.decreases-loop-at
decreases-loop-at g l = length l.units - l.at
