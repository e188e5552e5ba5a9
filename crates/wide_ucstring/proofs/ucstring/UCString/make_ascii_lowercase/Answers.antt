use Rattle.std.specs.Char.{to_ascii_lowercase}
use Rattle.wide_ascii.proofs.Texts.{lowercase-of_ascii}
use Rattle.wide_ucstring.proofs.Cased.{contents-cased, IsCString-cased}
use Rattle.wide_ucstring.proofs.ucstring.UCString.make_ascii_lowercase.Goals as goal

pub invariant_of-self : goal.invariant_of-self
invariant_of-self g c =
    IsCString-cased g.C.Unit.number to_ascii_lowercase c.self.inside.string.units c.make_ascii_lowercase.new.self.units c.make_ascii_lowercase.ensures.units lowercase-of_ascii c.self.invariant

pub returns-clause-contents : goal.returns-clause-contents
returns-clause-contents g c =
    rw (← c.self.view_is) (contents-cased g.C.Unit.number to_ascii_lowercase c.self.inside.string.units c.make_ascii_lowercase.new.self.units c.make_ascii_lowercase.ensures.units)
