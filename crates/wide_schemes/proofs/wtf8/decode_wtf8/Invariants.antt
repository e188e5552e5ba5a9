use Rattle.std.proofs.Common.{◌-◌, ◌≤◌, length, take}
use Rattle.wide_schemes.specs.PointRuns.{IsPointRun}
use Rattle.wide_schemes.proofs.wtf8.decode_wtf8.Given as goal

-- What was read is a run of code points, and what was written are its units.
abbrev pub invariant-runs : goal.invariant-runs
invariant-runs l = record {
  within : l.read ≤ length l.bytes;
  space : l.written ≤ length l.units;
  run : IsPointRun l.keeps l.fn.after_high l.bytes l.read (take l.written l.units) l.after_high;
}

abbrev pub decreases-runs : goal.decreases-runs
decreases-runs l = length l.bytes - l.read
