use Rattle.std.proofs.Common.{◌≡◌, ◌<◌, ◌≤◌, ◌+◌, ℕ, length, map}
use Rattle.std.specs.Str.TwoWay.{item_from}
use Rattle.wide_search.specs.NextOccurrences.{number_read}
use Rattle.wide_steps.specs.Counted.{counted}
use Rattle.wide_search.proofs.factorization.repeats_at.Given as goal

-- The units before `index` equal those a period later, as far as the later ones are after the cut.
abbrev pub invariant-loop-index : goal.invariant-loop-index
invariant-loop-index g l = record {
  same : (k : ℕ) → k < l.index → l.cut ≤ k + l.period →
      item_from g.S.Side.BACK (length l.needle) (map (number_read g.S.Side.READ g.C.Unit.number) l.needle) k ≡ item_from g.S.Side.BACK (length l.needle) (map (number_read g.S.Side.READ g.C.Unit.number) l.needle) (k + l.period);
  grows : counted l.fn.steps ≤ counted l.steps;
  steps : counted l.steps ≤ counted l.fn.steps + l.index;
}
