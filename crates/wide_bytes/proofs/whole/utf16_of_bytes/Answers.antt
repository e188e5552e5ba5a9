use Rattle.std.proofs.Common.{◌≡◌, ◌∙◌, ap}
use Rattle.std.specs.Prelude.{is_some, unwrap_or}
use Rattle.wide_bytes.specs.Bytes.{half_of, bom_of, order_of, units_in, without_bom}
use Rattle.wide_bytes.specs.UnitsOfBytes.{units_left}
use Rattle.wide_bytes.specs.declared.order.BoM.TheVariants.{Little}
use Rattle.wide_bytes.proofs.WholeBytes.{parts-half, parts-whole}
use Rattle.wide_bytes.proofs.whole.utf16_of_bytes.Goals as goal

pub returns-clause-half : goal.returns-clause-half
returns-clause-half c =
    parts-half (record { order = c.unwrap_or-order.result; has_bom = c.is_some.result; units = c.units_in.result; half = c.half_of.result }) c.args.bytes.now c.type_inv.bytes (c.half_of.ensures ∙ ap half_of c.without_bom-content.ensures)

pub returns-clause-whole : goal.returns-clause-whole
returns-clause-whole c =
    let bytes = c.args.bytes.now in
    let order : c.unwrap_or-order.result ≡ order_of bytes = c.unwrap_or-order.ensures ∙ ap (λ bom. unwrap_or bom Little) c.byte_order-bom.ensures in
    let has_bom : c.is_some.result ≡ is_some (bom_of bytes) = c.is_some.ensures ∙ ap is_some c.byte_order-bom.ensures in
    let units : units_left c.units_in.result ≡ units_in c.unwrap_or-order.result (without_bom bytes) = c.units_in.ensures ∙ ap (units_in c.unwrap_or-order.result) c.without_bom-content.ensures in
    parts-whole (record { order = c.unwrap_or-order.result; has_bom = c.is_some.result; units = c.units_in.result; half = c.half_of.result }) bytes c.type_inv.bytes order has_bom units (c.half_of.ensures ∙ ap half_of c.without_bom-content.ensures)
