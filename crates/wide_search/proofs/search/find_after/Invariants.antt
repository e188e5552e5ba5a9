use Rattle.std.proofs.Common.{length, ℕ, ◌+◌, ◌-◌, ◌*◌, ◌<◌, ◌≤◌}
use Rattle.wide_search.specs.Occurrences.{OccursAt}
use Rattle.wide_steps.specs.Counted.{counted}
use Rattle.wide_search.proofs.search.find_after.Given as goal

-- The needle occurs at none of the offsets before `at`.
abbrev pub invariant-loop-at : goal.invariant-loop-at
invariant-loop-at g l = record {
  some : 4 ≤ l.tries;
  within : l.at ≤ length l.units;
  before : (earlier : ℕ) → earlier < l.at → ¬ (OccursAt (g.P.Needle.sought l.needle) l.units earlier);
  grows : counted l.fn.steps ≤ counted l.steps;
  few : 512 < length (g.P.Needle.sought l.needle) → l.tries ≤ 48;
  narrow : length (g.P.Needle.sought l.needle) ≤ 512 → l.at + length (g.P.Needle.sought l.needle) ≤ length l.units → counted l.steps ≤ counted l.fn.steps + 600 * l.at;
  narrow_near : length (g.P.Needle.sought l.needle) ≤ 512 → counted l.steps ≤ counted l.fn.steps + 600 * l.at + 3700;
  wide : length l.units < 144115188075855872 → 512 < length (g.P.Needle.sought l.needle) → l.at + length (g.P.Needle.sought l.needle) + 48 < length l.units → counted l.steps ≤ counted l.fn.steps + 260 * l.at;
  wide_near : length l.units < 144115188075855872 → 512 < length (g.P.Needle.sought l.needle) → length l.units ≤ l.at + length (g.P.Needle.sought l.needle) + 48 → counted l.steps + length (g.P.Needle.sought l.needle) * (length l.units + 1 - length (g.P.Needle.sought l.needle) - l.at) ≤ counted l.fn.steps + 260 * l.at + 250 * length (g.P.Needle.sought l.needle) + 100;
}

abbrev pub decreases-loop-at : goal.decreases-loop-at
decreases-loop-at g l = length l.units - l.at
