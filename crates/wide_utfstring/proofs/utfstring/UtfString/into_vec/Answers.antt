use Rattle.wide_utfstring.proofs.utfstring.UtfString.into_vec.Goals as goal

pub returns-clause-well_formed : goal.returns-clause-well_formed
returns-clause-well_formed g c = rw c.into_vec.ensures.units c.into_ustring.ensures.well_formed
