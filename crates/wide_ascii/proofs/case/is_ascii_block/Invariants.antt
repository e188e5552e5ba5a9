use Rattle.std.proofs.Common.{◌↔◌, map, IsTrue, IsAscii, take}
use Rattle.wide_ascii.proofs.case.is_ascii_block.Given as goal

abbrev pub invariant-loop-unit : goal.invariant-loop-unit
invariant-loop-unit g l = IsTrue l.is_ascii ↔ IsAscii (take l.unit-index (map g.C.Unit.number l.units))
