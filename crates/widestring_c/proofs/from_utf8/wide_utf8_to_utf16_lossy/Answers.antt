use Rattle.std.proofs.Common.{◌∙◌, ap, arith, length}
use Rattle.wide_forms.specs.EncodingForm.{Utf16, encode}
use Rattle.wide_conversions.proofs.PrefixTexts.{lossy-utf8}
use Rattle.widestring_c.proofs.from_utf8.wide_utf8_to_utf16_lossy.Goals as goal

pub returns-clause-len : goal.returns-clause-len
returns-clause-len c = omega (arith, c.put_lossy_16.ensures.len, ap (λ cs. length (encode Utf16 cs)) (lossy-utf8 c.args.text.now))

pub returns-clause-units : goal.returns-clause-units
returns-clause-units c = λ fits. c.put_lossy_16.ensures.text fits ∙ ap (encode Utf16) (lossy-utf8 c.args.text.now)
