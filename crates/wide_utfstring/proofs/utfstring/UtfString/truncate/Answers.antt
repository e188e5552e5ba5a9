use Rattle.std.proofs.Common.{map}
use Rattle.wide_unit.proofs.CharBoundaries.{past_or_boundary}
use Rattle.wide_utfstring.proofs.Edits.{prefix_of, prefix_text}
use Rattle.wide_utfstring.proofs.utfstring.UtfString.truncate.Goals as goal

pub invariant_of-self : goal.invariant_of-self
invariant_of-self g c =
    let form = g.C.Unit.form in
    let number = g.C.Unit.number in
    let xs = c.self.inside.string.units in
    rw c.truncate.ensures.units (prefix_of form number xs c.args.len c.self.invariant (past_or_boundary g.C.Unit.form (map g.C.Unit.number c.self.inside.string.units) c.args.len (rw (← c.self.view_is) at c.requires)))

pub returns-clause-text : goal.returns-clause-text
returns-clause-text g c =
    let form = g.C.Unit.form in
    let number = g.C.Unit.number in
    let xs = c.self.inside.string.units in
    rw (← c.self.view_is, c.truncate.ensures.units) (prefix_text form number xs c.args.len c.self.invariant (past_or_boundary g.C.Unit.form (map g.C.Unit.number c.self.inside.string.units) c.args.len (rw (← c.self.view_is) at c.requires)))
