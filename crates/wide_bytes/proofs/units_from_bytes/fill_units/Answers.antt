use Rattle.std.proofs.Common.{◌/◌, ◌∙◌, length, sym, ap, arith}
use Rattle.wide_bytes.specs.Bytes.{units_in}
use Rattle.wide_bytes.proofs.UnitLists.{units-filled}
use Rattle.wide_bytes.specs.declared.order.BoM.TheVariants.{Little, Big}
use Rattle.wide_bytes.proofs.units_from_bytes.fill_units.Goals as goal

pub returns-in-Little : goal.returns-in-Little
returns-in-Little c =
    units-filled Little c.args.bytes.now c.fill_little.new.units (length c.args.bytes.now / 2) (omega arith) (omega (arith, c.requires, c.fill_little.ensures.long)) c.fill_little.ensures.units ∙ ap (λ o. units_in o c.args.bytes.now) (sym c.in-Little.is)

pub returns-in-Big : goal.returns-in-Big
returns-in-Big c =
    units-filled Big c.args.bytes.now c.fill_big.new.units (length c.args.bytes.now / 2) (omega arith) (omega (arith, c.requires, c.fill_big.ensures.long)) c.fill_big.ensures.units ∙ ap (λ o. units_in o c.args.bytes.now) (sym c.in-Big.is)
