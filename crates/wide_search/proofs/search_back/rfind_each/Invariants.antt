use Rattle.std.proofs.Common.{ℕ, ◌+◌, ◌*◌, ◌<◌, ◌≤◌, length}
use Rattle.wide_search.specs.Occurrences.{OccursAt}
use Rattle.wide_steps.specs.Counted.{counted}
use Rattle.wide_search.proofs.search_back.rfind_each.Given as goal

-- The needle occurs at none of the offsets from `at` on.
abbrev pub invariant-loop-at : goal.invariant-loop-at
invariant-loop-at g l = record {
  within : l.at ≤ l.end;
  beyond : (later : ℕ) → l.at ≤ later → ¬ (OccursAt (g.P.Needle.sought l.needle) l.units later);
  grows : counted l.fn.steps ≤ counted l.steps;
  few : length (g.P.Needle.sought l.needle) < 16 → counted l.steps + 16 * l.at ≤ counted l.fn.steps + 16 * l.end;
  many : 16 ≤ length (g.P.Needle.sought l.needle) → length (g.P.Needle.sought l.needle) < 144115188075855872 → counted l.steps + 8 * l.at ≤ counted l.fn.steps + 8 * l.end + l.all_matched;
  matched : 16 ≤ length (g.P.Needle.sought l.needle) → length (g.P.Needle.sought l.needle) < 144115188075855872 → l.all_matched ≤ 65 * length (g.P.Needle.sought l.needle);
}

abbrev pub decreases-loop-at : goal.decreases-loop-at
decreases-loop-at g l = l.at
