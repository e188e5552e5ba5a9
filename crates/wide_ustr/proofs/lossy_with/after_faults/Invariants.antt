use Rattle.std.proofs.Common.{◌≤◌, map, length}
use Rattle.wide_forms.specs.Items.{items}
use Rattle.wide_ustr.proofs.FaultRuns.{PassedFirst}
use Rattle.wide_ustr.proofs.lossy_with.after_faults.Given as goal

abbrev pub invariant-loop-tail : goal.invariant-loop-tail
invariant-loop-tail g l = (length l.rest ≤ length l.units) × PassedFirst (items g.C.Unit.form (map g.C.Unit.number l.units)) (items g.C.Unit.form (map g.C.Unit.number l.rest))

abbrev pub decreases-loop-tail : goal.decreases-loop-tail
decreases-loop-tail g l = length l.rest
