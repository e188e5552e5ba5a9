use Rattle.std.proofs.Common.{map, sym, subst}
use Rattle.wide_forms.specs.Items.{IsWellFormed}
use Rattle.wide_ustr.specs.View.{units_seen as ustr_units}
use Rattle.wide_utfstring.proofs.Overwritten.{IsWellFormed-overwritten}
use Rattle.wide_utfstring.proofs.utfstring.UtfString.replace_with.Goals as goal

pub invariant_of-self : goal.invariant_of-self
invariant_of-self g c =
    let number = g.C.Unit.number in
    let needle = map number (ustr_units c.as_ustr.result) in
    let with = map number (ustr_units c.as_ustr-2.result) in
    subst (IsWellFormed g.C.Unit.form) (sym c.replace_with.ensures.units)
    (IsWellFormed-overwritten g.C.Unit.form needle with c.as_ustr.ensures.well_formed c.as_ustr-2.ensures.well_formed (map number c.self.inside.string.units) c.self.invariant)
