use Rattle.std.proofs.Common.{length, ℕ, ◌+◌, ◌-◌, ◌*◌, ◌<◌, ◌≤◌}
use Rattle.wide_search.specs.Costs.{whole_tries}
use Rattle.wide_search.specs.Occurrences.{OccursAt}
use Rattle.wide_steps.specs.Counted.{counted}
use Rattle.wide_search.proofs.search.find_by_first.Given as goal

-- Each try goes on by an offset at least, and the needle occurs at none of the offsets before `at`. A try counts a step
-- for each unit of the needle, unless fewer units are left.
abbrev pub invariant-loop-at : goal.invariant-loop-at
invariant-loop-at g l = record {
  after : l.from ≤ l.at;
  fewer : l.tries ≤ l.most;
  forward : l.from + l.most ≤ l.at + l.tries;
  within : l.at ≤ length l.units;
  before : (earlier : ℕ) → earlier < l.at → ¬ (OccursAt (g.P.Needle.sought l.needle) l.units earlier);
  grows : counted l.fn.steps ≤ counted l.steps;
  narrow : length (g.P.Needle.sought l.needle) ≤ 512 → counted l.steps ≤ counted l.fn.steps + 529 * (l.at - l.from);
  wide : l.most ≤ 48 → counted l.steps + length (g.P.Needle.sought l.needle) * (48 - (l.most - l.tries)) ≤ counted l.fn.steps + 17 * (l.at - l.from) + length (g.P.Needle.sought l.needle) * 48;
  left : counted l.steps + whole_tries (g.P.Needle.sought l.needle) l.units l.at ≤ counted l.fn.steps + 17 * (l.at - l.from) + whole_tries (g.P.Needle.sought l.needle) l.units l.from;
}

abbrev pub decreases-loop-at : goal.decreases-loop-at
decreases-loop-at g l = length l.units - l.at
