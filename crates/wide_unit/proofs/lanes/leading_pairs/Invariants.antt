use Rattle.std.proofs.Common.{◌<◌, ◌-◌, length}
use Rattle.wide_unit.proofs.Pairs.{PairsTo}
use Rattle.wide_unit.proofs.lanes.leading_pairs.Given as goal

abbrev pub invariant-loop-at : goal.invariant-loop-at
invariant-loop-at l = (l.at < length l.units) × PairsTo l.units l.at

abbrev pub decreases-loop-at : goal.decreases-loop-at
decreases-loop-at l = length l.units - l.at
