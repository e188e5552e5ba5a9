use Rattle.std.proofs.Common.{◌∙◌, ap, arith, length, map}
use Rattle.wide_forms.specs.EncodingForm.{code_units}
use Rattle.wide_utfstr.specs.View.{units_seen}
use Rattle.wide_ustr.proofs.Mirrored.{rsplitn-whole, length-rsplitn}
use Rattle.std.specs.Prelude.{reverse}
use Rattle.wide_ustr.proofs.Few.{limited-kept}
use Rattle.wide_utfstr.proofs.view.UtfStr.rsplitn_char.Goals as goal

pub returns-clause-left : goal.returns-clause-left
returns-clause-left g c = c.new.ensures ∙ ap (map reverse) (limited-kept c.args.count (reverse (code_units g.C.Unit.form c.args.c)) (reverse (map g.C.Unit.number (units_seen c.args.self))))

pub returns-clause-whole : goal.returns-clause-whole
returns-clause-whole g c = λ one. (returns-clause-left g c) ∙ rsplitn-whole (code_units g.C.Unit.form c.args.c) (map g.C.Unit.number (units_seen c.args.self)) c.args.count one

pub returns-clause-most : goal.returns-clause-most
returns-clause-most g c = omega (arith, ap length (returns-clause-left g c), length-rsplitn c.args.count (code_units g.C.Unit.form c.args.c) (map g.C.Unit.number (units_seen c.args.self)))

pub returns-clause-fits : goal.returns-clause-fits
returns-clause-fits g c = omega (arith, c.ranges.count, ap length (returns-clause-left g c), length-rsplitn c.args.count (code_units g.C.Unit.form c.args.c) (map g.C.Unit.number (units_seen c.args.self)))
