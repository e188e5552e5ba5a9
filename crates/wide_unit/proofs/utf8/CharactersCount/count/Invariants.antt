use Rattle.std.proofs.Common.{◌≡◌, ◌≤◌, ◌*◌, take}
use Rattle.std.specs.List.{sum_by}
use Rattle.wide_unit.specs.LeadingByte.{begins, units_begun}
use Rattle.wide_unit.proofs.utf8.CharactersCount.count.Given as goal

abbrev pub invariant-loop-byte : goal.invariant-loop-byte
invariant-loop-byte l = (l.characters ≡ sum_by (λ b. begins (units_begun b)) (take l.byte-index l.bytes)) × (l.characters ≤ 2 * l.byte-index)
