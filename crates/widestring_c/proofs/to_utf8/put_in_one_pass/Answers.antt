use Rattle.std.proofs.Common.{◌∙◌, ap, arith, length}
use Rattle.wide_forms.specs.EncodingForm.{Utf16}
use Rattle.widestring_c.proofs.Fits.{bytes-well_formed}
use Rattle.widestring_c.proofs.to_utf8.put_in_one_pass.Goals as goal

pub returns-in-Some : goal.returns-in-Some
returns-in-Some c =
    let valid = c.in-Some.ensures.valid in
    let e = c.put_items.ensures in
    let fits = bytes-well_formed Utf16 c.args.units.now valid in (
      valid,
      record {
        len = omega (arith, e.offset, ap length c.in-Some.ensures.text, fits);
        fits = omega (arith, e.offset, ap length c.in-Some.ensures.text, fits);
        text = λ within. e.items within ∙ c.in-Some.ensures.text;
        beyond = e.beyond;
      },
    )
