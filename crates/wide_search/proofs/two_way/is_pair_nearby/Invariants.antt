use Rattle.std.proofs.Common.{◌≡◌, ◌+◌, ◌*◌}
use Rattle.wide_steps.specs.Counted.{counted}
use Rattle.wide_search.proofs.two_way.is_pair_nearby.Given as goal

-- Two steps are counted for each offset.
abbrev pub invariant-loop-offset : goal.invariant-loop-offset
invariant-loop-offset g l = counted l.steps + 2 * l.fn.at ≡ counted l.fn.steps + 2 * l.offset
