use Rattle.std.proofs.Common.{ap, arith, length, map}
use Rattle.wide_unit.proofs.LineOffsets.{placed-at_most, IsCharBoundary-lines}
use Rattle.wide_utfstr.specs.View.{units_seen}
use Rattle.wide_utfstr.proofs.view.UtfStr.line_indices.Goals as goal

pub returns-clause-boundaries : goal.returns-clause-boundaries
returns-clause-boundaries g c = rw (c.new.ensures) (IsCharBoundary-lines g.C.Unit.form (map g.C.Unit.number (units_seen c.args.self)) c.args.self.well_formed)

pub returns-clause-most : goal.returns-clause-most
returns-clause-most g c = omega (arith, ap length c.new.ensures, placed-at_most g.C.Unit.form g.C.Unit.number (units_seen c.args.self) 0)

pub returns-clause-fits : goal.returns-clause-fits
returns-clause-fits g c = omega (arith, ap length c.new.ensures, placed-at_most g.C.Unit.form g.C.Unit.number (units_seen c.args.self) 0, c.len-units.ensures)
