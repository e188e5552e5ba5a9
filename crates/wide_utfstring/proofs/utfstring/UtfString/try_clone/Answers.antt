use Rattle.wide_utfstring.proofs.utfstring.UtfString.try_clone.Goals as goal

pub invariant_of-result : goal.invariant_of-result
invariant_of-result g c = rw c.in_ok-try_clone.ensures.copy c.self.invariant
