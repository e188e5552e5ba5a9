use Rattle.std.proofs.Common.{◌≡◌, ◌+◌, ◌-◌, ◌≤◌, length}
use Rattle.wide_search.specs.Cut.{substrings}
use Rattle.wide_replace.proofs.replaced.count_cuts.Given as goal

abbrev pub invariant-loop-found : goal.invariant-loop-found
invariant-loop-found g l =
    (length (substrings (g.V.NeedleView.needle_numbers l.needle) (g.V.SplitView.numbers_seen l.fn.view)) ≡ l.found + length (substrings (g.V.NeedleView.needle_numbers l.needle) (g.V.SplitView.numbers_seen l.rest)))
    × (l.found ≤ l.most)

abbrev pub decreases-loop-found : goal.decreases-loop-found
decreases-loop-found g l = l.most - l.found
