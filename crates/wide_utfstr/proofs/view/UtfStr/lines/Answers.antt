use Rattle.std.proofs.Common.{ap, arith, length}
use Rattle.wide_unit.proofs.LineOffsets.{lines-at_most}
use Rattle.wide_utfstr.specs.View.{units_seen}
use Rattle.wide_utfstr.proofs.view.UtfStr.lines.Goals as goal

pub returns-clause-most : goal.returns-clause-most
returns-clause-most g c = omega (arith, ap length c.new.ensures, lines-at_most g.C.Unit.form g.C.Unit.number (units_seen c.args.self))

pub returns-clause-fits : goal.returns-clause-fits
returns-clause-fits g c = omega (arith, ap length c.new.ensures, lines-at_most g.C.Unit.form g.C.Unit.number (units_seen c.args.self), c.len-units.ensures)
