use Rattle.std.proofs.Common.{◌∙◌, sym, ap, arith}
use Rattle.wide_bytes.specs.declared.order.BoM.TheVariants.{Little, Big}
use Rattle.wide_schemes.specs.Layouts.{units32_in}
use Rattle.wide_schemes.proofs.Units32.{units32-filled}
use Rattle.wide_schemes.proofs.utf32.fill_units_32.Goals as goal

pub returns-in-Little-clause-units : goal.returns-in-Little-clause-units
returns-in-Little-clause-units c =
    units32-filled Little c.args.bytes.now c.fill_little_32.new.units (omega (arith, c.requires, c.fill_little_32.ensures.long)) c.fill_little_32.ensures.units ∙ ap (λ o. units32_in o c.args.bytes.now) (sym c.in-Little.is)

pub returns-in-Big-clause-units : goal.returns-in-Big-clause-units
returns-in-Big-clause-units c =
    units32-filled Big c.args.bytes.now c.fill_big_32.new.units (omega (arith, c.requires, c.fill_big_32.ensures.long)) c.fill_big_32.ensures.units ∙ ap (λ o. units32_in o c.args.bytes.now) (sym c.in-Big.is)
