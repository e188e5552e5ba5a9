use Rattle.wide_unit.proofs.Alone.{unit-not_before, unit-nowhere, unit-here}
use Rattle.wide_unit.proofs.first.first_of.Goals as goal

pub returns-then-offset-units-clause-before : goal.returns-then-offset-units-clause-before
returns-then-offset-units-clause-before g c = unit-not_before g.C.Unit.number c.args.number c.args.units.now c.offset_of-offset.result c.offset_of-offset.ensures

pub returns-then-offset-units-clause-at : goal.returns-then-offset-units-clause-at
returns-then-offset-units-clause-at g c = unit-here g.C.Unit.number c.args.number c.args.units.now c.offset_of-offset.result c.offset_of-offset.ensures c.if-offset-units.true

pub returns-clause-none : goal.returns-clause-none
returns-clause-none g c = unit-nowhere g.C.Unit.number c.args.number c.args.units.now c.offset_of-offset.result c.offset_of-offset.ensures c.if-offset-units.false
