use Rattle.std.proofs.Common.{arith, map}
use Rattle.wide_forms.specs.EncodingForm.{code_units}
use Rattle.wide_ustr.specs.View.{units_seen}
use Rattle.wide_ustr.proofs.Matched.{found-count, found-most}
use Rattle.wide_ustr.proofs.view.UStr.matches_char.Goals as goal

pub returns-clause-count : goal.returns-clause-count
returns-clause-count g c =
    let number = g.C.Unit.number in
    found-count _ (code_units g.C.Unit.form c.args.c) (map number (units_seen c.args.self)) c.new.ensures

pub returns-clause-most : goal.returns-clause-most
returns-clause-most g c =
    let number = g.C.Unit.number in
    found-most number _ (code_units g.C.Unit.form c.args.c) (units_seen c.args.self) c.new.ensures

pub returns-clause-fits : goal.returns-clause-fits
returns-clause-fits g c =
    let number = g.C.Unit.number in
    omega (arith, found-most number _ (code_units g.C.Unit.form c.args.c) (units_seen c.args.self) c.new.ensures, c.len-units.ensures)
