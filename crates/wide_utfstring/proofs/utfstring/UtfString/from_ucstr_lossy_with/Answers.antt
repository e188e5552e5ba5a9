use Rattle.wide_utfstring.proofs.utfstring.UtfString.from_ucstr_lossy_with.Goals as goal

pub returns-clause-succeeds : goal.returns-clause-succeeds
returns-clause-succeeds g c = rw c.as_slice.ensures.units at c.from_slice_lossy_with.ensures.succeeds
