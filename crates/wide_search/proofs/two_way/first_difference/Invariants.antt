use Rattle.std.proofs.Common.{◌≡◌, ◌-◌, ◌+◌, ◌*◌, ◌<◌, ◌≤◌, ℕ}
use Rattle.wide_search.specs.NextOccurrences.{number_from, number_read}
use Rattle.wide_steps.specs.Counted.{counted}
use Rattle.wide_search.proofs.two_way.first_difference.Given as goal

-- The units from `from` to before `index` are equal. A step is counted for each of them, and the one more that is allowed
-- pays for a block after 32 that are compared one by one.
abbrev pub invariant-loop-index : goal.invariant-loop-index
invariant-loop-index g l = record {
  after : l.from ≤ l.index;
  within : l.index ≤ l.end;
  same : (k : ℕ) → l.from ≤ k → k < l.index → number_from g.S.Side.BACK (number_read g.S.Side.READ g.C.Unit.number) l.units (l.at + k) ≡ number_from g.S.Side.BACK (number_read g.S.Side.READ g.C.Unit.number) l.needle k;
  some : 0 < l.left;
  few : l.left ≤ 32;
  grows : counted l.fn.steps ≤ counted l.steps;
  steps : counted l.steps + 2 * l.from + 32 ≤ counted l.fn.steps + 2 * l.index + l.left;
}

abbrev pub decreases-loop-index : goal.decreases-loop-index
decreases-loop-index g l = l.end - l.index
