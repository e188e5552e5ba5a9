use Rattle.std.proofs.Common.{length, ℕ, ◌+◌, ◌-◌, ◌*◌, ◌<◌, ◌≤◌}
use Rattle.wide_search.specs.Occurrences.{OccursAt}
use Rattle.wide_steps.specs.Counted.{counted}
use Rattle.wide_search.proofs.search.find_each.Given as goal

-- The needle occurs at none of the offsets before `at`.
abbrev pub invariant-loop-at : goal.invariant-loop-at
invariant-loop-at g l = record {
  after : l.from ≤ l.at;
  within : l.at ≤ length l.units;
  before : (earlier : ℕ) → earlier < l.at → ¬ (OccursAt (g.P.Needle.sought l.needle) l.units earlier);
  grows : counted l.fn.steps ≤ counted l.steps;
  narrow : length (g.P.Needle.sought l.needle) ≤ 512 → counted l.steps ≤ counted l.fn.steps + 520 * (l.at - l.from);
  wide : 512 < length (g.P.Needle.sought l.needle) → length (g.P.Needle.sought l.needle) < 144115188075855872 → counted l.steps ≤ counted l.fn.steps + 8 * (l.at - l.from) + l.all_matched;
  matched : 512 < length (g.P.Needle.sought l.needle) → length (g.P.Needle.sought l.needle) < 144115188075855872 → l.all_matched ≤ 65 * length (g.P.Needle.sought l.needle);
}

abbrev pub decreases-loop-at : goal.decreases-loop-at
decreases-loop-at g l = l.end - l.at
