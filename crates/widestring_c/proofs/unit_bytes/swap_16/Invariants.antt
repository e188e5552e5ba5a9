use Rattle.std.proofs.Common.{◌≡◌, ◌++◌, map, take, drop}
use Rattle.widestring_c.specs.UnitBytes.{swapped_16}
use Rattle.widestring_c.proofs.unit_bytes.swap_16.Given as goal

abbrev pub invariant-loop-k : goal.invariant-loop-k
invariant-loop-k l = l.units ≡ map swapped_16 (take l.k l.initial.units) ++ drop l.k l.initial.units
