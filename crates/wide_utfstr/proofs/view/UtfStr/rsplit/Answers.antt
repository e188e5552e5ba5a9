use Rattle.std.proofs.Common.{◌*◌, ◌∙◌, ap, arith, length, map}
use Rattle.wide_forms.specs.UnitBytes.{unit_width}
use Rattle.wide_utfstr.specs.View.{units_seen}
use Rattle.wide_ustr.proofs.Mirrored.{back-most}
use Rattle.wide_ustr.proofs.SubstringCounts.{few_units}
use Rattle.wide_utfstr.proofs.view.UtfStr.rsplit.Goals as goal

pub returns-clause-most : goal.returns-clause-most
returns-clause-most g c =
    let number = g.C.Unit.number in
    omega (arith, ap length c.new.ensures, back-most number (map number (units_seen c.args.needle)) (units_seen c.args.self))

pub returns-clause-fits : goal.returns-clause-fits
returns-clause-fits g c =
    let number = g.C.Unit.number in
    omega (arith, ap length c.new.ensures, back-most number (map number (units_seen c.args.needle)) (units_seen c.args.self), few_units g.C.Unit.form (length (units_seen c.args.self)) c.byte_len-bytes.result (c.byte_len-bytes.ensures.len ∙ ap (λ us. unit_width g.C.Unit.form * length us) c.as_slice.ensures.units) c.byte_len-bytes.ensures.bound)
