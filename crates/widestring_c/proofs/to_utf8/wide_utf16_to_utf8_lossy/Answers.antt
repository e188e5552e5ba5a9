use Rattle.std.proofs.Common.{◌≡◌, arith, ap, sym, ◌∙◌, length}
use Rattle.wide_forms.specs.EncodingForm.{Utf16}
use Rattle.wide_forms.specs.Items.{chars, items}
use Rattle.wide_forms.specs.Lossy.{lossy}
use Rattle.wide_forms.specs.Laws.Lossy.{lossy-well_formed}
use Rattle.wide_forms.specs.Utf8.{utf8}
use Rattle.widestring_c.proofs.to_utf8.wide_utf16_to_utf8_lossy.Goals as goal

pub returns-in-Some-clause-len : goal.returns-in-Some-clause-len
returns-in-Some-clause-len c =
    let us = c.args.units.now in
    let same : chars Utf16 us ≡ lossy (items Utf16 us) = sym (lossy-well_formed Utf16 us c.in-Some.ensures.0) in
    omega (arith, c.in-Some.ensures.1.len, ap (λ cs. length (utf8 cs)) same)

pub returns-in-Some-clause-text : goal.returns-in-Some-clause-text
returns-in-Some-clause-text c = λ fits.
    let us = c.args.units.now in
    let same : chars Utf16 us ≡ lossy (items Utf16 us) = sym (lossy-well_formed Utf16 us c.in-Some.ensures.0) in
    c.in-Some.ensures.1.text fits ∙ ap utf8 same
