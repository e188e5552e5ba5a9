use Rattle.std.proofs.Common.{◌≡◌, ◌≤◌, ◌*◌, take}
use Rattle.std.specs.List.{sum_by}
use Rattle.wide_unit.specs.LeadingByte.{units_begun}
use Rattle.wide_unit.proofs.utf8.UnitsCount.count.Given as goal

abbrev pub invariant-loop-byte : goal.invariant-loop-byte
invariant-loop-byte l = (l.units ≡ sum_by units_begun (take l.byte-index l.bytes)) × (l.units ≤ 2 * l.byte-index)
