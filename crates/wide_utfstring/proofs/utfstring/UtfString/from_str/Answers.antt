use Rattle.wide_forms.specs.Laws.Texts.{IsWellFormed-text, chars-text}
use Rattle.wide_utfstring.proofs.utfstring.UtfString.from_str.Goals as goal

pub invariant_of-result : goal.invariant_of-result
invariant_of-result g c = rw c.in_ok-from_str.ensures.units (IsWellFormed-text g.C.Unit.form c.args.text.now c.utf8.text)

pub returns-clause-text : goal.returns-clause-text
returns-clause-text g c = rw c.in_ok-from_str.ensures.units (chars-text g.C.Unit.form c.args.text.now c.utf8.text)

pub returns-clause-read_back : goal.returns-clause-read_back
returns-clause-read_back g c = c.in_ok-from_str.ensures.read_back
