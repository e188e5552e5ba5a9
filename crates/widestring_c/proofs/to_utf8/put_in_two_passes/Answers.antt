use Rattle.std.proofs.Common.{refl, length, map}
use Rattle.wide_forms.specs.Items.{chars}
use Rattle.wide_forms.specs.Utf8.{utf8}
use Rattle.widestring_c.proofs.Fits.{bytes-well_formed, exact_end}
use Rattle.widestring_c.proofs.to_utf8.put_in_two_passes.Goals as goal

pub returns-then-units-le-SMALL_UNITS : goal.returns-then-units-le-SMALL_UNITS
returns-then-units-le-SMALL_UNITS g c =
    let valid = c.in-None.ensures.none.0 refl in
    let e = c.put_chunks.ensures in
    let exact = exact_end g.C.Unit.number c.args.units.now c.put_chunks.result (length (utf8 (chars g.C.Unit.form (map g.C.Unit.number c.args.units.now)))) c.requires (bytes-well_formed g.C.Unit.form (map g.C.Unit.number c.args.units.now) valid) e.offset in
    (valid, record { len = exact.0; fits = exact.1; text = e.text; beyond = e.beyond })

pub returns-else-units-le-SMALL_UNITS : goal.returns-else-units-le-SMALL_UNITS
returns-else-units-le-SMALL_UNITS g c =
    let valid = c.in-None.ensures.none.0 refl in
    let e = c.put_chunks-else-units-le-SMALL_UNITS.ensures in
    let exact = exact_end g.C.Unit.number c.args.units.now c.put_chunks-else-units-le-SMALL_UNITS.result (length (utf8 (chars g.C.Unit.form (map g.C.Unit.number c.args.units.now)))) c.requires (bytes-well_formed g.C.Unit.form (map g.C.Unit.number c.args.units.now) valid) e.offset in
    (valid, record { len = exact.0; fits = exact.1; text = e.text; beyond = e.beyond })
