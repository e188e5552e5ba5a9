use Rattle.std.proofs.Common.{◌+◌, ◌*◌, ◌-◌, ◌≤◌, length, take}
use Rattle.wide_utf16_to_utf8.specs.Encoded.{EncodedUnits}
use Rattle.wide_utf16_to_utf8.proofs.to_utf8.utf16_to_utf8_until_fault.Given as goal

abbrev pub invariant-sixteens : goal.invariant-sixteens
invariant-sixteens l = record {
  within : l.read ≤ length l.units;
  space : l.written ≤ l.fn.at + 3 * l.read;
  encoded : EncodedUnits (take l.read l.units) (take l.fn.at l.fn.out) (take l.written l.out);
}

abbrev pub decreases-sixteens : goal.decreases-sixteens
decreases-sixteens l = length l.units - l.read
