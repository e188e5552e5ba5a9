use Rattle.std.proofs.Common.{arith}
use Rattle.wide_forms.specs.EncodingForm.{Utf16}
use Rattle.widestring_c.proofs.Chunks.{faulty}
use Rattle.widestring_c.proofs.Fits.{units-text}
use Rattle.widestring_c.proofs.from_utf8.wide_utf8_to_utf16.Goals as goal

pub returns-then-not-is_utf8-clause-len : goal.returns-then-not-is_utf8-clause-len
returns-then-not-is_utf8-clause-len c = λ text. absurd (faulty c.args.text.now c.is_utf8.result c.is_utf8.ensures c.if-not-is_utf8.true text)

pub returns-then-not-is_utf8-clause-units : goal.returns-then-not-is_utf8-clause-units
returns-then-not-is_utf8-clause-units c = λ text. absurd (faulty c.args.text.now c.is_utf8.result c.is_utf8.ensures c.if-not-is_utf8.true text)

pub returns-then-not-is_utf8-clause-no_fault : goal.returns-then-not-is_utf8-clause-no_fault
returns-then-not-is_utf8-clause-no_fault c = λ text. absurd (faulty c.args.text.now c.is_utf8.result c.is_utf8.ensures c.if-not-is_utf8.true text)

pub returns-then-text-le-FEW-clause-len : goal.returns-then-text-le-FEW-clause-len
returns-then-text-le-FEW-clause-len c = λ text. omega (arith, c.put_text.ensures.offset, units-text Utf16 c.args.text.now text)

pub returns-then-text-le-FEW-clause-no_fault : goal.returns-then-text-le-FEW-clause-no_fault
returns-then-text-le-FEW-clause-no_fault c = λ text. omega (arith, c.put_text.ensures.offset, units-text Utf16 c.args.text.now text)

pub returns-else-text-le-FEW-clause-len : goal.returns-else-text-le-FEW-clause-len
returns-else-text-le-FEW-clause-len c = λ text. omega (arith, c.put_text-else-text-le-FEW.ensures.offset, units-text Utf16 c.args.text.now text)

pub returns-else-text-le-FEW-clause-no_fault : goal.returns-else-text-le-FEW-clause-no_fault
returns-else-text-le-FEW-clause-no_fault c = λ text. omega (arith, c.put_text-else-text-le-FEW.ensures.offset, units-text Utf16 c.args.text.now text)
