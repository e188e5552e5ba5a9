use Rattle.std.proofs.Common.{map, inr, arith}
use Rattle.std.proofs.lemmas.List.{length-map}
use Rattle.wide_forms.specs.Laws.Offsets.{IsBoundary-within}
use Rattle.wide_forms.specs.Laws.Splices.{IsWellFormed-map_take, IsWellFormed-map_drop}
use Rattle.wide_unit.proofs.CharBoundaries.{IsBoundary-of_char}
use Rattle.wide_utfstring.proofs.Edits.{prefix_text, rest_text}
use Rattle.wide_utfstring.proofs.utfstring.UtfString.split_off.Goals as goal

pub split_off-requires : goal.split_off-requires
split_off-requires g c =
    let xs = c.self.inside.string.units in
    omega (arith, IsBoundary-within g.C.Unit.form (map g.C.Unit.number xs) c.args.at (IsBoundary-of_char g.C.Unit.form (map g.C.Unit.number c.self.inside.string.units) c.args.at (rw (← c.self.view_is) at c.requires)), length-map xs g.C.Unit.number)

pub invariant_of-self : goal.invariant_of-self
invariant_of-self g c = rw c.in_err-split_off.ensures.err c.self.invariant

pub invariant_of-result : goal.invariant_of-result
invariant_of-result g c = rw c.in_ok-split_off.ensures.rest (IsWellFormed-map_drop g.C.Unit.form g.C.Unit.number c.self.inside.string.units c.self.invariant c.args.at (IsBoundary-of_char g.C.Unit.form (map g.C.Unit.number c.self.inside.string.units) c.args.at (rw (← c.self.view_is) at c.requires)))

pub invariant_of-self-2 : goal.invariant_of-self-2
invariant_of-self-2 g c = rw c.in_ok-split_off.ensures.ok (IsWellFormed-map_take g.C.Unit.form g.C.Unit.number c.self.inside.string.units c.self.invariant c.args.at (IsBoundary-of_char g.C.Unit.form (map g.C.Unit.number c.self.inside.string.units) c.args.at (rw (← c.self.view_is) at c.requires)))

pub returns-clause-rest_text : goal.returns-clause-rest_text
returns-clause-rest_text g c =
    rw (← c.self.view_is, c.in_ok-split_off.ensures.rest)
    (rest_text g.C.Unit.form g.C.Unit.number c.self.inside.string.units c.args.at c.self.invariant (IsBoundary-of_char g.C.Unit.form (map g.C.Unit.number c.self.inside.string.units) c.args.at (rw (← c.self.view_is) at c.requires)))

pub returns-clause-text : goal.returns-clause-text
returns-clause-text g c =
    rw (← c.self.view_is, c.in_ok-split_off.ensures.ok)
    (prefix_text g.C.Unit.form g.C.Unit.number c.self.inside.string.units c.args.at c.self.invariant (inr (IsBoundary-of_char g.C.Unit.form (map g.C.Unit.number c.self.inside.string.units) c.args.at (rw (← c.self.view_is) at c.requires))))
