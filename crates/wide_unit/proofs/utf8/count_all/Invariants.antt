use Rattle.std.proofs.Common.{◌≡◌, ◌-◌, ◌*◌, ◌≤◌, length, take}
use Rattle.std.specs.List.{sum_by}
use Rattle.wide_unit.proofs.utf8.count_all.Given as goal

abbrev pub invariant-counted : goal.invariant-counted
invariant-counted g l = record {
  within : l.at ≤ length l.bytes;
  so_far : l.count ≡ sum_by g.T.Count.begun (take l.at l.bytes);
  bound : l.count ≤ 2 * l.at;
}

abbrev pub decreases-counted : goal.decreases-counted
decreases-counted g l = length l.bytes - l.at
