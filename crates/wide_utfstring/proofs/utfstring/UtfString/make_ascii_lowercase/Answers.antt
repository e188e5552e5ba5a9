use Rattle.std.proofs.Common.{map, ap, sym, subst, ◌∙◌}
use Rattle.std.specs.Char.{to_ascii_lowercase}
use Rattle.wide_forms.specs.Items.{chars, IsWellFormed}
use Rattle.wide_ascii.proofs.Texts.{lowercase-of_ascii, IsWellFormed-mapped, chars-mapped}
use Rattle.wide_utfstring.proofs.utfstring.UtfString.make_ascii_lowercase.Goals as goal

pub invariant_of-self : goal.invariant_of-self
invariant_of-self g c =
    subst (IsWellFormed g.C.Unit.form) (sym c.make_ascii_lowercase.ensures.units) (IsWellFormed-mapped to_ascii_lowercase lowercase-of_ascii g.C.Unit.form (map g.C.Unit.number c.self.inside.string.units) c.self.invariant)

pub returns-clause-text : goal.returns-clause-text
returns-clause-text g c =
    rw (← c.self.view_is) (ap (chars g.C.Unit.form) c.make_ascii_lowercase.ensures.units ∙ chars-mapped to_ascii_lowercase lowercase-of_ascii g.C.Unit.form (map g.C.Unit.number c.self.inside.string.units) c.self.invariant)
