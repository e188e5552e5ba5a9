use Rattle.wide_ustr.specs.View.{units_seen}
use Rattle.wide_utfstr.specs.View.{units_seen as text_units}
use Rattle.wide_utfstring.proofs.Changes.{joined-well, joined-text}
use Rattle.wide_utfstring.proofs.utfstring.UtfString.push_utfstr.Goals as goal

pub invariant_of-self : goal.invariant_of-self
invariant_of-self g c = joined-well g.C.Unit.form g.C.Unit.number c.self.inside.string c.args.self.now c.self.view_is c.self.invariant c.push.new.self c.push.result (units_seen c.as_ustr.result) c.push.ensures.ok c.as_ustr.ensures.well_formed c.push.ensures.err

pub returns-clause-text : goal.returns-clause-text
returns-clause-text g c = joined-text g.C.Unit.form g.C.Unit.number c.self.inside.string c.args.self.now c.self.view_is c.self.invariant c.push.new.self c.push.result (units_seen c.as_ustr.result) c.push.ensures.ok (text_units c.args.text) c.as_ustr.ensures.units
