use Rattle.std.proofs.Common.{[], ◌∷◌}
use Rattle.wide_forms.specs.EncodingForm.{code_units}
use Rattle.wide_forms.specs.Laws.Ends.{IsWellFormed-code_units}
use Rattle.wide_forms.specs.Laws.Splices.{chars-code_units}
use Rattle.wide_utfstring.proofs.Changes.{boundary-in, place-in, spliced-well, spliced-text}
use Rattle.wide_utfstring.proofs.utfstring.UtfString.insert.Goals as goal

pub insert_char-requires : goal.insert_char-requires
insert_char-requires g c = place-in g.C.Unit.form g.C.Unit.number c.self.inside.string c.args.self.now c.self.view_is c.args.at c.requires

pub invariant_of-self : goal.invariant_of-self
invariant_of-self g c =
    let at = boundary-in g.C.Unit.form g.C.Unit.number c.self.inside.string c.args.self.now c.self.view_is c.args.at c.requires in
    spliced-well g.C.Unit.form g.C.Unit.number c.self.inside.string c.args.self.now c.self.view_is c.self.invariant c.insert_char.new.self c.insert_char.result c.args.at c.args.at at at (code_units g.C.Unit.form c.args.c) (IsWellFormed-code_units g.C.Unit.form c.args.c c.ranges.c.0) c.insert_char.ensures.ok c.insert_char.ensures.err

pub returns-clause-text : goal.returns-clause-text
returns-clause-text g c =
    let at = boundary-in g.C.Unit.form g.C.Unit.number c.self.inside.string c.args.self.now c.self.view_is c.args.at c.requires in
    spliced-text g.C.Unit.form g.C.Unit.number c.self.inside.string c.args.self.now c.self.view_is c.self.invariant c.insert_char.new.self c.insert_char.result c.args.at c.args.at at at (code_units g.C.Unit.form c.args.c) (IsWellFormed-code_units g.C.Unit.form c.args.c c.ranges.c.0) c.insert_char.ensures.ok
    (c.args.c ∷ []) (chars-code_units g.C.Unit.form c.args.c c.ranges.c.0)
