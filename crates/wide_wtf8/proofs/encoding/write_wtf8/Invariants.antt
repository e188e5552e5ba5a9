use Rattle.std.proofs.Common.{◌≡◌, ◌-◌, ◌≤◌, ◌++◌, length, take, drop}
use Rattle.wide_schemes.specs.Wtf8.{wtf8}
use Rattle.wide_wtf8.proofs.encoding.write_wtf8.Given as goal

-- The bytes written so far are followed by those of the units that are left.
abbrev pub invariant-parts : goal.invariant-parts
invariant-parts l = record {
  within : l.read ≤ length l.units;
  room : l.written ≤ length l.out;
  long : length l.out ≡ length l.fn.out;
  text : wtf8 l.units ≡ take l.written l.out ++ wtf8 (drop l.read l.units);
}

abbrev pub decreases-parts : goal.decreases-parts
decreases-parts l = length l.units - l.read
