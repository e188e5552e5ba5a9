use Rattle.std.proofs.Common.{◌≡◌, ◌++◌}
use Rattle.wide_bytes.specs.Bytes.{units_of_bytes}
use Rattle.wide_bytes.specs.UnitsOfBytes.{units_left}
use Rattle.wide_include.proofs.include.unit_vec.Given as goal

abbrev pub invariant-loop-unit : goal.invariant-loop-unit
invariant-loop-unit g l = l.found.items ++ units_left l.unit-iterator ≡ units_of_bytes l.bytes
