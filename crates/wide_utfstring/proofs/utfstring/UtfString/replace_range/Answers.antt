use Rattle.std.proofs.Common.{arith}
use Rattle.std.proofs.lemmas.Grind.{common_steps}
use Rattle.wide_ustr.specs.View.{units_seen}
use Rattle.wide_utfstr.specs.View.{units_seen as text_units}
use Rattle.wide_utfstring.proofs.Changes.{part-well, part-text}
use Rattle.wide_utfstring.proofs.utfstring.UtfString.replace_range.Goals as goal

pub invariant_of-self : goal.invariant_of-self
invariant_of-self g c =
    part-well g.C.Unit.form g.C.Unit.number c.self.inside.string c.args.self.now c.self.view_is c.self.invariant c.replace_range.new.self c.replace_range.result (g.R.RangeBounds.start_bound c.args.range) (g.R.RangeBounds.end_bound c.args.range) c.requires.at_boundaries (units_seen c.as_ustr.result) c.as_ustr.ensures.well_formed
    c.replace_range.ensures.ok c.replace_range.ensures.err

pub returns-clause-text : goal.returns-clause-text
returns-clause-text g c =
    part-text g.C.Unit.form g.C.Unit.number c.self.inside.string c.args.self.now c.self.view_is c.self.invariant c.replace_range.new.self c.replace_range.result (g.R.RangeBounds.start_bound c.args.range) (g.R.RangeBounds.end_bound c.args.range) c.requires.at_boundaries (units_seen c.as_ustr.result) c.as_ustr.ensures.well_formed
    c.replace_range.ensures.ok (text_units c.args.with) c.as_ustr.ensures.units

pub replace_range-requires-clause-in_range : goal.replace_range-requires-clause-in_range
replace_range-requires-clause-in_range g c = grind (arith, common_steps)
