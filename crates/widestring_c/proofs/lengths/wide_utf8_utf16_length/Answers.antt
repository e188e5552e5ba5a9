use Rattle.std.proofs.Common.{ap, arith, length}
use Rattle.std.specs.Str.{chars}
use Rattle.wide_forms.specs.EncodingForm.{Utf16, encode}
use Rattle.widestring_c.proofs.Chunks.{faulty}
use Rattle.widestring_c.proofs.Fits.{units-text}
use Rattle.widestring_c.proofs.lengths.wide_utf8_utf16_length.Goals as goal

pub returns-then-not-is_utf8-clause-len : goal.returns-then-not-is_utf8-clause-len
returns-then-not-is_utf8-clause-len c = λ text. absurd (faulty c.args.text.now c.is_utf8.result c.is_utf8.ensures c.if-not-is_utf8.true text)

pub returns-then-not-is_utf8-clause-no_fault : goal.returns-then-not-is_utf8-clause-no_fault
returns-then-not-is_utf8-clause-no_fault c = λ text. absurd (faulty c.args.text.now c.is_utf8.result c.is_utf8.ensures c.if-not-is_utf8.true text)

pub returns-clause-no_fault : goal.returns-clause-no_fault
returns-clause-no_fault c = λ text. omega (arith, c.length_as_utf16.ensures, ap (λ bs. length (encode Utf16 (chars bs))) c.from_utf8_unchecked.ensures, units-text Utf16 c.args.text.now text)
