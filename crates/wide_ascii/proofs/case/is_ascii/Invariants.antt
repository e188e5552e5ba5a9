use Rattle.std.proofs.Common.{◌↔◌, map, IsAscii, length}
use Rattle.wide_ascii.proofs.case.is_ascii.Given as goal

abbrev pub invariant-loop-rest : goal.invariant-loop-rest
invariant-loop-rest g l = IsAscii (map g.C.Unit.number l.fn.units) ↔ IsAscii (map g.C.Unit.number l.rest)

abbrev pub decreases-loop-rest : goal.decreases-loop-rest
decreases-loop-rest g l = length l.rest
