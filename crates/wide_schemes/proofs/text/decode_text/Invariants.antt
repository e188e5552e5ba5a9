use Rattle.std.proofs.Common.{length, ◌-◌, ◌≤◌, take}
use Rattle.wide_schemes.specs.Decoded.{IsTextPrefix}
use Rattle.wide_schemes.proofs.text.decode_text.Given as goal

abbrev pub invariant-loop-read : goal.invariant-loop-read
invariant-loop-read l = record {
  within : l.read ≤ length l.text;
  space : l.written ≤ length l.units;
  prefix : IsTextPrefix l.text l.read (take l.written l.units);
}

abbrev pub decreases-loop-read : goal.decreases-loop-read
decreases-loop-read l = length l.text - l.read
