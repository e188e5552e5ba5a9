use Rattle.std.proofs.Common.{ℕ, ◌+◌, ◌-◌, ◌*◌, ◌<◌, ◌≤◌, ◌≡◌, length, map}
use Rattle.wide_search.specs.Lowercased.{lowercased}
use Rattle.wide_search.specs.Occurrences.{OccursAt}
use Rattle.wide_steps.specs.Counted.{counted}
use Rattle.wide_search.proofs.ignoring_case.find_each.Given as goal

-- The needle occurs at none of the offsets before `at`. A step is counted for each offset and for each unit that
-- matched.
abbrev pub invariant-loop-at : goal.invariant-loop-at
invariant-loop-at g l = record {
  after : l.from ≤ l.at;
  within : l.at ≤ length l.units;
  before : (earlier : ℕ) → earlier < l.at → ¬ (OccursAt (lowercased (map g.C.Unit.number l.needle)) (lowercased (map g.C.Unit.number l.units)) earlier);
  matched : length l.needle < 144115188075855872 → l.all_matched ≤ 65 * length l.needle;
  steps : length l.needle < 144115188075855872 → counted l.steps + l.from ≡ counted l.fn.steps + l.at + l.all_matched;
}

abbrev pub decreases-loop-at : goal.decreases-loop-at
decreases-loop-at g l = l.end - l.at
