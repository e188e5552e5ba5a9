use Rattle.std.proofs.Common.{◌≡◌, ◌+◌, ◌-◌, ◌^◌, ◌≤◌, length, min, take}
use Rattle.std.specs.List.{sum_by}
use Rattle.wide_from_units.proofs.utf8_length.len_of.Given as goal

abbrev pub invariant-counted : goal.invariant-counted
invariant-counted g l = (l.at ≤ length l.units) × (l.len ≡ min (length l.units + sum_by g.C.Weighed.more (take l.at l.units)) (2 ^ 64 - 1))

abbrev pub decreases-counted : goal.decreases-counted
decreases-counted g l = length l.units - l.at
