use Rattle.wide_utfstring.proofs.utfstring.UtfString.from_vec.Goals as goal

pub invariant_of-result : goal.invariant_of-result
invariant_of-result g c = rw c.from_vec.ensures.units (rw c.as_slice.ensures.value at c.in-Ok.ensures.ok)

pub returns-in-Ok-clause-ok : goal.returns-in-Ok-clause-ok
returns-in-Ok-clause-ok g c = rw c.as_slice.ensures.value at c.in-Ok.ensures.ok

pub returns-in-Ok-clause-well_formed : goal.returns-in-Ok-clause-well_formed
returns-in-Ok-clause-well_formed g c = rw c.as_slice.ensures.value at c.in-Ok.ensures.well_formed

pub returns-in-Err-clause-well_formed : goal.returns-in-Err-clause-well_formed
returns-in-Err-clause-well_formed g c = rw c.as_slice.ensures.value at c.in-Err.ensures.well_formed
