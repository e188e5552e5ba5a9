use Rattle.std.proofs.Common.{length, ap, arith}
use Rattle.std.proofs.lemmas.Grind.{common_steps}
use Rattle.std.specs.Range.Bound.{start_index, end_index}
use Rattle.wide_forms.specs.Range.{part_of}
use Rattle.wide_forms.specs.Laws.Splices.{IsWellFormed-map_part}
use Rattle.wide_utfstring.proofs.Changes.{part-in, joined-well, joined-text}
use Rattle.wide_utfstring.proofs.utfstring.UtfString.extend_from_within.Goals as goal

pub invariant_of-self : goal.invariant_of-self
invariant_of-self g c =
    let form = g.C.Unit.form in
    let number = g.C.Unit.number in
    let old = c.self.inside.string in
    let start = g.R.RangeBounds.start_bound c.args.range in
    let end = g.R.RangeBounds.end_bound c.args.range in
    let part = part-in form number old c.args.self.now c.self.view_is start end c.requires.at_boundaries in
    let well = IsWellFormed-map_part form number old.units c.self.invariant (start_index start) (end_index end (length old.units)) part.start part.end part.within.forward in
    joined-well form number old c.args.self.now c.self.view_is c.self.invariant c.extend_from_within.new.self c.extend_from_within.result (part_of old.units start end) c.extend_from_within.ensures.ok well c.extend_from_within.ensures.err

pub returns-clause-text : goal.returns-clause-text
returns-clause-text g c =
    let start = g.R.RangeBounds.start_bound c.args.range in
    let end = g.R.RangeBounds.end_bound c.args.range in
    joined-text g.C.Unit.form g.C.Unit.number c.self.inside.string c.args.self.now c.self.view_is c.self.invariant c.extend_from_within.new.self c.extend_from_within.result (part_of c.self.inside.string.units start end) c.extend_from_within.ensures.ok
    (part_of c.args.self.now.units start end) (ap (λ s. part_of s.units start end) c.self.view_is)

pub extend_from_within-requires-clause-in_range : goal.extend_from_within-requires-clause-in_range
extend_from_within-requires-clause-in_range g c = grind (arith, common_steps)
