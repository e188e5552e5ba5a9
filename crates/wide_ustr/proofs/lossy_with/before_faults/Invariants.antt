use Rattle.std.proofs.Common.{◌≤◌, map, length}
use Rattle.wide_forms.specs.Items.{items}
use Rattle.wide_ustr.proofs.FaultRuns.{PassedLast}
use Rattle.wide_ustr.proofs.lossy_with.before_faults.Given as goal

abbrev pub invariant-loop-prefix : goal.invariant-loop-prefix
invariant-loop-prefix g l = (length l.rest ≤ length l.units) × PassedLast (items g.C.Unit.form (map g.C.Unit.number l.units)) (items g.C.Unit.form (map g.C.Unit.number l.rest))

abbrev pub decreases-loop-prefix : goal.decreases-loop-prefix
decreases-loop-prefix g l = length l.rest
