use Rattle.std.proofs.Common.{◌≡◌, ◌-◌, ◌*◌, ◌≤◌, ◌++◌, length, take, drop}
use Rattle.wide_schemes.specs.Wtf8.{wtf8}
use Rattle.wide_schemes.proofs.bytes.put_wtf8.Given as goal

-- The bytes written so far are followed by those of the units that are left.
abbrev pub invariant-loop-read : goal.invariant-loop-read
invariant-loop-read l = record {
  within : l.read ≤ length l.units;
  room : l.written ≤ 3 * l.read;
  long : length l.out ≡ length l.fn.out;
  text : wtf8 l.units ≡ take l.written l.out ++ wtf8 (drop l.read l.units);
}

abbrev pub decreases-loop-read : goal.decreases-loop-read
decreases-loop-read l = length l.units - l.read
