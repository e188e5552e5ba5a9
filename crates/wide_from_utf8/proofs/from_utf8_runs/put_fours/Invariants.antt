use Rattle.std.proofs.Common.{◌≤◌, ◌*◌, ◌+◌, map, take}
use Rattle.wide_from_utf8.specs.Decoded.{IsDecoded}
use Rattle.wide_from_utf8.proofs.from_utf8_runs.put_fours.Given as goal

abbrev pub invariant-loop-k : goal.invariant-loop-k
invariant-loop-k g l = record {
  from : l.at ≤ l.beyond;
  few : l.beyond ≤ l.at + 2 * l.k;
  prefix : IsDecoded g.C.Unit.form l.text (4 * l.k) (map g.C.Unit.number (take l.at l.fn.units)) (map g.C.Unit.number (take l.beyond l.units));
}
