use Rattle.std.proofs.Common.{length, map, ◌+◌, ◌-◌, ◌*◌, ◌≤◌}
use Rattle.std.specs.Str.TwoWay.{item_from}
use Rattle.wide_search.specs.Factorizations.{Precedes}
use Rattle.wide_search.specs.NextOccurrences.{number_read}
use Rattle.wide_steps.specs.Counted.{counted}
use Rattle.wide_search.proofs.Suffixes.{IsCandidate}
use Rattle.wide_search.proofs.factorization.greatest_suffix.Given as goal

-- The suffix from `start` on is the greatest so far. Each step makes the sum of the three offsets greater.
abbrev pub invariant-loop-other : goal.invariant-loop-other
invariant-loop-other g l = record {
  candidate : IsCandidate (Precedes l.reversed) (item_from g.S.Side.BACK (length l.needle) (map (number_read g.S.Side.READ g.C.Unit.number) l.needle)) (length l.needle) l.start l.other l.matched l.period;
  grows : counted l.fn.steps ≤ counted l.steps;
  steps : counted l.steps + 1 ≤ counted l.fn.steps + l.start + l.other + l.matched;
}

abbrev pub decreases-loop-other : goal.decreases-loop-other
decreases-loop-other g l = 2 * length l.needle - (l.start + l.other + l.matched)
