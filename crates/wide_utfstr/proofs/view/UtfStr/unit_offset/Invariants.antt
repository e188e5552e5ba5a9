use Rattle.std.proofs.Common.{◌≤◌, map, length}
use Rattle.wide_utfstr.proofs.Walk.{IsLeftFrom}
use Rattle.wide_utfstr.proofs.view.UtfStr.unit_offset.Given as goal

abbrev pub invariant-loop-passed : goal.invariant-loop-passed
invariant-loop-passed g l = (l.passed ≤ l.index) × IsLeftFrom g.C.Unit.form (map g.C.Unit.number l.self.units.now) (map g.C.Unit.number l.rest.units.now) l.passed

abbrev pub decreases-loop-passed : goal.decreases-loop-passed
decreases-loop-passed g l = length l.rest.units.now

abbrev pub invariant-loop-number : goal.invariant-loop-number
invariant-loop-number g l = IsLeftFrom g.C.Unit.form (map g.C.Unit.number l.self.units.now) (map g.C.Unit.number l.rest.units.now) l._number
