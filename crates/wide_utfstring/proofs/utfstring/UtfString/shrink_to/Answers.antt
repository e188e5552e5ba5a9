use Rattle.wide_utfstring.proofs.utfstring.UtfString.shrink_to.Goals as goal

pub invariant_of-self : goal.invariant_of-self
invariant_of-self g c = rw c.shrink_to.ensures.units c.self.invariant
