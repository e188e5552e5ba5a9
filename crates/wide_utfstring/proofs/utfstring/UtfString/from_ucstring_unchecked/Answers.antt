use Rattle.wide_utfstring.proofs.utfstring.UtfString.from_ucstring_unchecked.Goals as goal

pub invariant_of-result : goal.invariant_of-result
invariant_of-result g c = rw c.into_ustring.ensures.units c.requires
