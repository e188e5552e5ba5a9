use Rattle.wide_utfstring.proofs.utfstring.UtfString.reserve.Goals as goal

pub invariant_of-self : goal.invariant_of-self
invariant_of-self g c = rw c.reserve.ensures.units c.self.invariant
