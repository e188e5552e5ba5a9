use Rattle.std.proofs.Common.{◌-◌, ◌≤◌, ◌<◌, length, take}
use Rattle.wide_schemes.specs.Decoded.{IsScalarPart}
use Rattle.wide_schemes.proofs.utf32.decode_utf32.Given as goal

abbrev pub invariant-loop-read : goal.invariant-loop-read
invariant-loop-read l = record {
  block : 0 < length l.block;
  space : l.written ≤ length l.units;
  part : IsScalarPart l.order l.bytes l.read (take l.written l.units);
}

abbrev pub decreases-loop-read : goal.decreases-loop-read
decreases-loop-read l = length l.bytes - l.read
