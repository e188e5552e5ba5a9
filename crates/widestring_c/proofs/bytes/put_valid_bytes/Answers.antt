use Rattle.std.proofs.Common.{◌≡◌, ap, ◌∙◌, arith, length, refl}
use Rattle.wide_forms.specs.EncodingForm.{Utf16}
use Rattle.wide_forms.specs.Items.{chars, items}
use Rattle.wide_forms.specs.Lossy.{lossy}
use Rattle.wide_forms.specs.Utf8.{utf8}
use Rattle.wide_forms.specs.Laws.Lossy.{lossy-well_formed}
use Rattle.wide_bytes.specs.Bytes.{units_in}
use Rattle.widestring_c.specs.Bytes.{IsWellFormedIn}
use Rattle.widestring_c.proofs.bytes.put_valid_bytes.Goals.{else-bytes-eq0-via-then-bytes-eq0+else-valid_units_len-bytes, else-bytes-eq0-via-else-bytes-eq0}
use Rattle.widestring_c.proofs.bytes.put_valid_bytes.Goals as goal

pub returns-then-valid_units_len-bytes : goal.returns-then-valid_units_len-bytes
returns-then-valid_units_len-bytes c =
    let us = units_in c.args.order c.args.bytes.now in
    let valid = c.valid_units_len.ensures.well_formed.0 (omega arith) in
    let same : lossy (items Utf16 us) ≡ chars Utf16 us = lossy-well_formed Utf16 us valid in
    let e = c.put_bytes.ensures in
    ((omega arith, valid), record { len = e.len ∙ ap (λ cs. length (utf8 cs)) same; fits = e.fits; text = λ fits. e.text fits ∙ ap utf8 same; beyond = e.beyond })

pub returns-else-bytes-eq0 : goal.returns-else-bytes-eq0
returns-else-bytes-eq0 c =
    let none : ¬ (IsWellFormedIn c.args.order c.args.bytes.now) = λ valid. elim c.else-bytes-eq0.branch [
      | else-bytes-eq0-via-then-bytes-eq0+else-valid_units_len-bytes w ↦ w.if-valid_units_len-bytes.false (w.valid_units_len.ensures.well_formed.1 valid.1)
      | else-bytes-eq0-via-else-bytes-eq0 w ↦ w.if-bytes-eq0.false valid.0
    ] in
    (none, refl)
