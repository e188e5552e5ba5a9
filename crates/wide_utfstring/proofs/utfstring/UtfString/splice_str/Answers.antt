use Rattle.std.specs.Str.{chars as str_chars}
use Rattle.wide_forms.specs.EncodingForm.{encode}
use Rattle.wide_forms.specs.Laws.Texts.{IsWellFormed-text, chars-text}
use Rattle.wide_utfstring.proofs.Changes.{range-in, within-in, spliced-well, spliced-text}
use Rattle.wide_utfstring.proofs.utfstring.UtfString.splice_str.Goals as goal

pub splice_str-requires : goal.splice_str-requires
splice_str-requires g c = within-in g.C.Unit.form g.C.Unit.number c.self.inside.string c.args.self.now c.self.view_is c.args.from c.args.to c.requires

pub invariant_of-self : goal.invariant_of-self
invariant_of-self g c =
    let part = range-in g.C.Unit.form g.C.Unit.number c.self.inside.string c.args.self.now c.self.view_is c.args.from c.args.to c.requires in
    spliced-well g.C.Unit.form g.C.Unit.number c.self.inside.string c.args.self.now c.self.view_is c.self.invariant c.splice_str.new.self c.splice_str.result c.args.from c.args.to part.start part.end (encode g.C.Unit.form (str_chars c.args.text.now)) (IsWellFormed-text g.C.Unit.form c.args.text.now c.utf8.text) c.splice_str.ensures.ok c.splice_str.ensures.err

pub returns-clause-text : goal.returns-clause-text
returns-clause-text g c =
    let part = range-in g.C.Unit.form g.C.Unit.number c.self.inside.string c.args.self.now c.self.view_is c.args.from c.args.to c.requires in
    spliced-text g.C.Unit.form g.C.Unit.number c.self.inside.string c.args.self.now c.self.view_is c.self.invariant c.splice_str.new.self c.splice_str.result c.args.from c.args.to part.start part.end (encode g.C.Unit.form (str_chars c.args.text.now)) (IsWellFormed-text g.C.Unit.form c.args.text.now c.utf8.text) c.splice_str.ensures.ok
    (str_chars c.args.text.now) (chars-text g.C.Unit.form c.args.text.now c.utf8.text)
