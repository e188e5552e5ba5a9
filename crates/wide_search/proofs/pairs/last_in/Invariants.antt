use Rattle.std.proofs.Common.{◌<◌, ◌≤◌, ℕ, length, map}
use Rattle.wide_search.specs.Probes.{EitherMatchesAt}
use Rattle.wide_search.proofs.pairs.last_in.Given as goal

-- The two units match at no index from `end` on.
abbrev pub invariant-loop-end : goal.invariant-loop-end
invariant-loop-end g l = (l.end ≤ length l.back) × ((k : ℕ) → l.end ≤ k → k < length l.back → ¬ (EitherMatchesAt g.L.Lane.number l.first l.last (map g.L.Lane.number l.front) (map g.L.Lane.number l.back) k))

abbrev pub decreases-loop-end : goal.decreases-loop-end
decreases-loop-end g l = l.end

abbrev pub invariant-loop-end-2 : goal.invariant-loop-end-2
invariant-loop-end-2 g l = (l.end ≤ length l.back) × ((k : ℕ) → l.end ≤ k → k < length l.back → ¬ (EitherMatchesAt g.L.Lane.number l.first l.last (map g.L.Lane.number l.front) (map g.L.Lane.number l.back) k))

abbrev pub decreases-loop-end-2 : goal.decreases-loop-end-2
decreases-loop-end-2 g l = l.end
