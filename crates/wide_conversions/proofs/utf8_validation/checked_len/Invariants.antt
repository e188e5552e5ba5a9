use Rattle.std.proofs.Common.{◌≤◌, ◌-◌, length}
use Rattle.wide_conversions.proofs.ValidPrefixes.{AllFollow}
use Rattle.wide_conversions.proofs.utf8_validation.checked_len.Given as goal

abbrev pub invariant-chunks : goal.invariant-chunks
invariant-chunks l = record { some : 64 ≤ l.end; within : l.end ≤ length l.text; valid : AllFollow l.text l.end }

abbrev pub decreases-chunks : goal.decreases-chunks
decreases-chunks l = length l.text - l.end
