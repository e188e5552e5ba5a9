use Rattle.std.proofs.Common.{◌∙◌, ap, arith, length, sym}
use Rattle.std.specs.Str.{chars}
use Rattle.std.proofs.lemmas.List.{map-id}
use Rattle.wide_forms.specs.EncodingForm.{Utf32}
use Rattle.wide_forms.specs.Laws.Utf32.{encode32}
use Rattle.widestring_c.proofs.Chunks.{faulty}
use Rattle.widestring_c.proofs.Fits.{units-text}
use Rattle.widestring_c.proofs.from_utf8.wide_utf8_to_utf32.Goals as goal

pub returns-then-not-is_utf8-clause-len : goal.returns-then-not-is_utf8-clause-len
returns-then-not-is_utf8-clause-len c = λ text. absurd (faulty c.args.text.now c.is_utf8.result c.is_utf8.ensures c.if-not-is_utf8.true text)

pub returns-then-not-is_utf8-clause-units : goal.returns-then-not-is_utf8-clause-units
returns-then-not-is_utf8-clause-units c = λ text. absurd (faulty c.args.text.now c.is_utf8.result c.is_utf8.ensures c.if-not-is_utf8.true text)

pub returns-then-text-le-FEW-clause-len : goal.returns-then-text-le-FEW-clause-len
returns-then-text-le-FEW-clause-len c = λ text. omega (arith, c.put_text.ensures.offset, ap length (encode32 (chars c.args.text.now)), units-text Utf32 c.args.text.now text)

pub returns-then-text-le-FEW-clause-units : goal.returns-then-text-le-FEW-clause-units
returns-then-text-le-FEW-clause-units c = λ text fits. sym (map-id _) ∙ c.put_text.ensures.units fits ∙ encode32 _

pub returns-else-text-le-FEW-clause-len : goal.returns-else-text-le-FEW-clause-len
returns-else-text-le-FEW-clause-len c = λ text. omega (arith, c.put_text-else-text-le-FEW.ensures.offset, ap length (encode32 (chars c.args.text.now)), units-text Utf32 c.args.text.now text)

pub returns-else-text-le-FEW-clause-units : goal.returns-else-text-le-FEW-clause-units
returns-else-text-le-FEW-clause-units c = λ text fits. sym (map-id _) ∙ c.put_text-else-text-le-FEW.ensures.units fits ∙ encode32 _

pub returns-then-not-is_utf8-clause-no_fault : goal.returns-then-not-is_utf8-clause-no_fault
returns-then-not-is_utf8-clause-no_fault c = λ text. absurd (faulty c.args.text.now c.is_utf8.result c.is_utf8.ensures c.if-not-is_utf8.true text)

pub returns-then-text-le-FEW-clause-no_fault : goal.returns-then-text-le-FEW-clause-no_fault
returns-then-text-le-FEW-clause-no_fault c = λ text. omega (arith, c.put_text.ensures.offset, ap length (encode32 (chars c.args.text.now)), units-text Utf32 c.args.text.now text)

pub returns-else-text-le-FEW-clause-no_fault : goal.returns-else-text-le-FEW-clause-no_fault
returns-else-text-le-FEW-clause-no_fault c = λ text. omega (arith, c.put_text-else-text-le-FEW.ensures.offset, ap length (encode32 (chars c.args.text.now)), units-text Utf32 c.args.text.now text)
