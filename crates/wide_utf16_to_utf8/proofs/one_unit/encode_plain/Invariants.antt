use Rattle.std.proofs.Common.{◌+◌, ◌*◌, ◌-◌, ◌≤◌, length, take}
use Rattle.wide_utf16_to_utf8.specs.Encoded.{EncodedUnits}
use Rattle.wide_utf16_to_utf8.proofs.one_unit.encode_plain.Given as goal

abbrev pub invariant-units : goal.invariant-units
invariant-units l = record {
  within : l.read ≤ length l.units;
  space : l.written ≤ l.fn.at + 3 * l.read;
  encoded : EncodedUnits (take l.read l.units) (take l.fn.at l.fn.out) (take l.written l.out);
}

abbrev pub decreases-units : goal.decreases-units
decreases-units l = length l.units - l.read
