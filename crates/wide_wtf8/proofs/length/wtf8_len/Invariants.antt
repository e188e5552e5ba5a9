use Rattle.std.proofs.Common.{◌≡◌, ◌+◌, ◌*◌, ◌-◌, ◌≤◌, length}
use Rattle.wide_wtf8.specs.Lengths.{more_of_first}
use Rattle.wide_wtf8.proofs.length.wtf8_len.Given as goal

abbrev pub invariant-counted : goal.invariant-counted
invariant-counted l = record {
  last : l.last + 1 ≡ length l.units;
  within : l.at ≤ l.last;
  counted : l.len ≡ length l.units + more_of_first l.at l.units;
  few : l.len ≤ length l.units + 2 * l.at;
}

abbrev pub decreases-counted : goal.decreases-counted
decreases-counted l = l.last - l.at
