use Rattle.std.proofs.Common.{◌+◌, ◌-◌, ◌≤◌, length, take}
use Rattle.wide_utf16_to_utf8.specs.Encoded.{EncodedUnits}
use Rattle.wide_utf16_to_utf8.proofs.to_utf8.encode_rest.Given as goal

abbrev pub invariant-eights : goal.invariant-eights
invariant-eights l = record {
  within : l.read ≤ length l.units;
  encoded : EncodedUnits (take l.read l.units) (take l.at l.fn.out) (take (l.at + l.read) l.out);
}

abbrev pub decreases-eights : goal.decreases-eights
decreases-eights l = length l.units - l.read
