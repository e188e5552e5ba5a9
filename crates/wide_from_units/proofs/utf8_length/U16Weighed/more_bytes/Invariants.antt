use Rattle.std.proofs.Common.{◌≡◌, ◌*◌, ◌≤◌, take}
use Rattle.std.specs.List.{sum_by}
use Rattle.wide_from_units.specs.Lengths.{more_of_16}
use Rattle.wide_from_units.proofs.utf8_length.U16Weighed.more_bytes.Given as goal

abbrev pub invariant-loop-unit : goal.invariant-loop-unit
invariant-loop-unit l = (l.more ≡ sum_by more_of_16 (take l.unit-index l.units)) × (l.more ≤ 2 * l.unit-index)
