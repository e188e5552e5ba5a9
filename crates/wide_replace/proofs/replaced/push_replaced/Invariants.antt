use Rattle.std.proofs.Common.{◌≡◌, ◌++◌, ◌≤◌}
use Rattle.wide_search.specs.Cut.{substrings}
use Rattle.wide_replace.specs.Replaced.{joined_first}
use Rattle.wide_replace.proofs.replaced.push_replaced.Given as goal

abbrev pub invariant-loop-left : goal.invariant-loop-left
invariant-loop-left g l =
    let needle = g.V.NeedleView.needle_numbers l.needle in
    let with = g.V.SplitView.numbers_seen l.with in record {
      units :
          (g.S.Growing.seen l.fn.string).units ++ joined_first l.most with needle (substrings needle (g.V.SplitView.numbers_seen l.fn.view))
          ≡ (g.S.Growing.seen l.string).units ++ joined_first l.left with needle (substrings needle (g.V.SplitView.numbers_seen l.rest));
      capacity : (g.S.Growing.seen l.fn.string).capacity ≤ (g.S.Growing.seen l.string).capacity;
    }

abbrev pub decreases-loop-left : goal.decreases-loop-left
decreases-loop-left g l = l.left
