use Rattle.std.proofs.Common.{◌≡◌, take}
use Rattle.wide_search.proofs.comparisons.are_same.Given as goal

abbrev pub invariant-loop-offset : goal.invariant-loop-offset
invariant-loop-offset g l = take l.offset l.left ≡ take l.offset l.right
