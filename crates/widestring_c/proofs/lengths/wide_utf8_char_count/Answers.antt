use Rattle.std.proofs.Common.{arith, ap, length}
use Rattle.std.specs.Str.{chars}
use Rattle.wide_forms.specs.EncodingForm.{Utf32}
use Rattle.wide_forms.specs.Laws.Utf32.{encode32}
use Rattle.widestring_c.proofs.Chunks.{faulty}
use Rattle.widestring_c.proofs.Fits.{units-text}
use Rattle.widestring_c.proofs.lengths.wide_utf8_char_count.Goals as goal

pub returns-then-not-is_utf8-clause-len : goal.returns-then-not-is_utf8-clause-len
returns-then-not-is_utf8-clause-len c = λ text. absurd (faulty c.args.text.now c.is_utf8.result c.is_utf8.ensures c.if-not-is_utf8.true text)

pub returns-then-not-is_utf8-clause-no_fault : goal.returns-then-not-is_utf8-clause-no_fault
returns-then-not-is_utf8-clause-no_fault c = λ text. absurd (faulty c.args.text.now c.is_utf8.result c.is_utf8.ensures c.if-not-is_utf8.true text)

pub returns-clause-no_fault : goal.returns-clause-no_fault
returns-clause-no_fault c = λ text. omega (arith, c.length_as_utf32.ensures, ap (λ bs. length (chars bs)) c.from_utf8_unchecked.ensures, units-text Utf32 c.args.text.now text, ap length (encode32 (chars c.args.text.now)))
