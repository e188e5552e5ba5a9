use Rattle.wide_ustr.specs.View.{units_seen}
use Rattle.wide_utfstr.specs.View.{units_seen as text_units}
use Rattle.wide_utfstring.proofs.Changes.{boundary-in, place-in, replaced-well, replaced-text}
use Rattle.wide_utfstring.proofs.utfstring.UtfString.insert_utfstr.Goals as goal

pub insert_ustr-requires : goal.insert_ustr-requires
insert_ustr-requires g c = place-in g.C.Unit.form g.C.Unit.number c.self.inside.string c.args.self.now c.self.view_is c.args.at c.requires

pub invariant_of-self : goal.invariant_of-self
invariant_of-self g c =
    let at = boundary-in g.C.Unit.form g.C.Unit.number c.self.inside.string c.args.self.now c.self.view_is c.args.at c.requires in
    replaced-well g.C.Unit.form g.C.Unit.number c.self.inside.string c.args.self.now c.self.view_is c.self.invariant c.insert_ustr.new.self c.insert_ustr.result c.args.at c.args.at at at (units_seen c.as_ustr.result) c.as_ustr.ensures.well_formed c.insert_ustr.ensures.ok c.insert_ustr.ensures.err

pub returns-clause-text : goal.returns-clause-text
returns-clause-text g c =
    let at = boundary-in g.C.Unit.form g.C.Unit.number c.self.inside.string c.args.self.now c.self.view_is c.args.at c.requires in
    replaced-text g.C.Unit.form g.C.Unit.number c.self.inside.string c.args.self.now c.self.view_is c.self.invariant c.insert_ustr.new.self c.insert_ustr.result c.args.at c.args.at at at (units_seen c.as_ustr.result) c.as_ustr.ensures.well_formed c.insert_ustr.ensures.ok (text_units c.args.text) c.as_ustr.ensures.units
