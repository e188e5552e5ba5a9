use Rattle.wide_utf16_to_utf8.proofs.EncodedPrefixes.{rest-numbers, text-numbers}
use Rattle.wide_from_units.proofs.to_utf8.to_utf8_prefix.Goals as goal

pub returns-in-U16-clause-text : goal.returns-in-U16-clause-text
returns-in-U16-clause-text g c = text-numbers g.C.Unit.number c.args.units.now _ c.utf16_to_utf8_prefix.result.read c.in-U16.ensures.form c.in-U16.ensures.numbers c.utf16_to_utf8_prefix.ensures.text c.utf16_to_utf8_prefix.ensures.rest

pub returns-in-U16-clause-rest : goal.returns-in-U16-clause-rest
returns-in-U16-clause-rest g c = rest-numbers g.C.Unit.number c.args.units.now _ c.utf16_to_utf8_prefix.result.read c.in-U16.ensures.form c.in-U16.ensures.numbers c.utf16_to_utf8_prefix.ensures.text c.utf16_to_utf8_prefix.ensures.rest

pub returns-in-U32-clause-text : goal.returns-in-U32-clause-text
returns-in-U32-clause-text g c = text-numbers g.C.Unit.number c.args.units.now _ c.utf32_to_utf8_prefix.result.read c.in-U32.ensures.form c.in-U32.ensures.numbers c.utf32_to_utf8_prefix.ensures.text c.utf32_to_utf8_prefix.ensures.rest

pub returns-in-U32-clause-rest : goal.returns-in-U32-clause-rest
returns-in-U32-clause-rest g c = rest-numbers g.C.Unit.number c.args.units.now _ c.utf32_to_utf8_prefix.result.read c.in-U32.ensures.form c.in-U32.ensures.numbers c.utf32_to_utf8_prefix.ensures.text c.utf32_to_utf8_prefix.ensures.rest
