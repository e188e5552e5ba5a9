use Rattle.wide_utfstring.proofs.utfstring.UtfString.as_slice.Goals as goal

pub returns-clause-well_formed : goal.returns-clause-well_formed
returns-clause-well_formed g c = rw c.as_slice.ensures c.self.invariant
