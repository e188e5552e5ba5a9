use Rattle.wide_utfstr.proofs.Boundary.{boundary_by_unit, boundary_by_length}
use Rattle.std.proofs.Common.{map}
use Rattle.wide_unit.proofs.CharBoundaries.{reports_char_boundary}
use Rattle.wide_utfstr.proofs.view.UtfStr.is_char_boundary.Goals as goal

pub returns-in-Some-clause-boundary : goal.returns-in-Some-clause-boundary
returns-in-Some-clause-boundary g c =
    boundary_by_unit g.C.Unit.form g.C.Unit.number c.args.self.units.now c.args.offset c.args.self.well_formed c.in-Some.unit.now c.in-Some.ensures.lookup.3.0 c.in-Some.ensures.lookup.1
    c.is_low.result c.is_low.ensures

pub returns-in-None-clause-boundary : goal.returns-in-None-clause-boundary
returns-in-None-clause-boundary g c = boundary_by_length g.C.Unit.form g.C.Unit.number c.args.self.units.now c.args.offset c.in-None.ensures.lookup.3

pub returns-in-Some-clause-char_boundary : goal.returns-in-Some-clause-char_boundary
returns-in-Some-clause-char_boundary g c = reports_char_boundary g.C.Unit.form (map g.C.Unit.number c.args.self.units.now) c.args.offset c.args.self.well_formed (returns-in-Some-clause-boundary g c)

pub returns-in-None-clause-char_boundary : goal.returns-in-None-clause-char_boundary
returns-in-None-clause-char_boundary g c = reports_char_boundary g.C.Unit.form (map g.C.Unit.number c.args.self.units.now) c.args.offset c.args.self.well_formed (returns-in-None-clause-boundary g c)
