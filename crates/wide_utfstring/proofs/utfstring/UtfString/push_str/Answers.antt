use Rattle.std.specs.Str.{chars as str_chars}
use Rattle.wide_forms.specs.EncodingForm.{encode}
use Rattle.wide_forms.specs.Laws.Texts.{IsWellFormed-text, chars-text}
use Rattle.wide_utfstring.proofs.Changes.{appended-well, appended-text}
use Rattle.wide_utfstring.proofs.utfstring.UtfString.push_str.Goals as goal

pub invariant_of-self : goal.invariant_of-self
invariant_of-self g c =
    appended-well g.C.Unit.form g.C.Unit.number c.self.inside.string c.args.self.now c.self.view_is c.self.invariant c.push_str.new.self c.push_str.result (encode g.C.Unit.form (str_chars c.args.text.now)) c.push_str.ensures.ok (IsWellFormed-text g.C.Unit.form c.args.text.now c.utf8.text) c.push_str.ensures.err

pub returns-clause-text : goal.returns-clause-text
returns-clause-text g c =
    appended-text g.C.Unit.form g.C.Unit.number c.self.inside.string c.args.self.now c.self.view_is c.self.invariant c.push_str.new.self c.push_str.result (encode g.C.Unit.form (str_chars c.args.text.now)) c.push_str.ensures.ok (str_chars c.args.text.now) (chars-text g.C.Unit.form c.args.text.now c.utf8.text)
