use Rattle.std.proofs.Common.{[], ◌∷◌}
use Rattle.wide_forms.specs.EncodingForm.{code_units}
use Rattle.wide_forms.specs.Laws.Ends.{IsWellFormed-code_units}
use Rattle.wide_forms.specs.Laws.Splices.{chars-code_units}
use Rattle.wide_utfstring.proofs.Changes.{appended-well, appended-text}
use Rattle.wide_utfstring.proofs.utfstring.UtfString.push.Goals as goal

pub invariant_of-self : goal.invariant_of-self
invariant_of-self g c =
    appended-well g.C.Unit.form g.C.Unit.number c.self.inside.string c.args.self.now c.self.view_is c.self.invariant c.push_char.new.self c.push_char.result (code_units g.C.Unit.form c.args.c) c.push_char.ensures.ok (IsWellFormed-code_units g.C.Unit.form c.args.c c.ranges.c.0) c.push_char.ensures.err

pub returns-clause-text : goal.returns-clause-text
returns-clause-text g c =
    appended-text g.C.Unit.form g.C.Unit.number c.self.inside.string c.args.self.now c.self.view_is c.self.invariant c.push_char.new.self c.push_char.result (code_units g.C.Unit.form c.args.c) c.push_char.ensures.ok (c.args.c ∷ []) (chars-code_units g.C.Unit.form c.args.c c.ranges.c.0)
