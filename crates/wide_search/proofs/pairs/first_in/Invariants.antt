use Rattle.std.proofs.Common.{◌-◌, ◌<◌, ◌≤◌, ℕ, length, map}
use Rattle.wide_search.specs.Probes.{EitherMatchesAt}
use Rattle.wide_search.proofs.pairs.first_in.Given as goal

-- The two units match at no index before `at`.
abbrev pub invariant-loop-at : goal.invariant-loop-at
invariant-loop-at g l = (l.at ≤ length l.back) × ((k : ℕ) → k < l.at → ¬ (EitherMatchesAt g.L.Lane.number l.first l.last (map g.L.Lane.number l.front) (map g.L.Lane.number l.back) k))

abbrev pub decreases-loop-at : goal.decreases-loop-at
decreases-loop-at g l = length l.back - l.at

abbrev pub invariant-loop-at-2 : goal.invariant-loop-at-2
invariant-loop-at-2 g l = (l.at ≤ length l.back) × ((k : ℕ) → k < l.at → ¬ (EitherMatchesAt g.L.Lane.number l.first l.last (map g.L.Lane.number l.front) (map g.L.Lane.number l.back) k))

abbrev pub decreases-loop-at-2 : goal.decreases-loop-at-2
decreases-loop-at-2 g l = length l.back - l.at
