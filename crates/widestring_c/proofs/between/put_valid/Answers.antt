use Rattle.std.proofs.Common.{refl, length, map}
use Rattle.wide_forms.specs.EncodingForm.{encode}
use Rattle.wide_forms.specs.Items.{chars}
use Rattle.widestring_c.proofs.Fits.{exact_end, units-between}
use Rattle.widestring_c.proofs.between.put_valid.Goals as goal

pub returns-in-None : goal.returns-in-None
returns-in-None g c =
    let valid = c.in-None.ensures.none.0 refl in
    let e = c.put_recoded.ensures in
    let exact = exact_end g.C.Unit.number c.args.units.now c.put_recoded.result (length (encode g.D.Unit.form (chars g.C.Unit.form (map g.C.Unit.number c.args.units.now)))) c.requires.units (units-between g.C.Unit.form g.D.Unit.form (map g.C.Unit.number c.args.units.now) valid) e.offset in
    (valid, record { len = exact.0; fits = exact.1; units = e.units; beyond = e.beyond })
