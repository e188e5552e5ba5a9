use Rattle.std.proofs.Common.{◌≡◌, ◌++◌, ◌+◌, map, take}
use Rattle.wide_from_utf8.specs.Decoded.{codes_of_three}
use Rattle.wide_from_utf8.proofs.from_utf8_runs.put_threes.Given as goal

abbrev pub invariant-loop-k : goal.invariant-loop-k
invariant-loop-k g l = map g.C.Unit.number (take (l.at + l.k) l.units) ≡ map g.C.Unit.number (take l.at l.fn.units) ++ take l.k (codes_of_three l.text)
