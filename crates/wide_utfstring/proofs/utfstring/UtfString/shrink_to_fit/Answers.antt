use Rattle.wide_utfstring.proofs.utfstring.UtfString.shrink_to_fit.Goals as goal

pub invariant_of-self : goal.invariant_of-self
invariant_of-self g c = rw c.shrink_to_fit.ensures.units c.self.invariant
