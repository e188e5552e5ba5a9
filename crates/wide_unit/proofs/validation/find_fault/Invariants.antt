use Rattle.std.proofs.Common.{◌≤◌, map, length}
use Rattle.wide_forms.specs.Items.{BeginsWithChars}
use Rattle.wide_unit.proofs.validation.find_fault.Given as goal

abbrev pub invariant-loop-item : goal.invariant-loop-item
invariant-loop-item g l = (length l.rest ≤ length l.units) × BeginsWithChars g.C.Unit.form (map g.C.Unit.number l.units) (map g.C.Unit.number l.rest)

abbrev pub decreases-loop-item : goal.decreases-loop-item
decreases-loop-item g l = length l.rest
