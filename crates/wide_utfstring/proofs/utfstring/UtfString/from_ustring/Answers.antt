use Rattle.std.proofs.Common.{arith}
use Rattle.std.proofs.lemmas.Grind.{common_steps}
use Rattle.wide_utfstring.proofs.Errors.{err_gives}
use Rattle.wide_utfstring.proofs.utfstring.UtfString.from_ustring.Goals as goal

pub returns-clause-ok : goal.returns-clause-ok
returns-clause-ok g c = rw c.into_vec.ensures.units at c.from_vec.ensures.ok

pub returns-clause-fault : goal.returns-clause-fault
returns-clause-fault g c = err_gives c.from_vec.result (λ e fault. (c.into_vec.result, c.into_vec.ensures.units, c.into_vec.ensures.capacity, fault)) c.from_vec.ensures.fault

pub returns-clause-well_formed : goal.returns-clause-well_formed
returns-clause-well_formed g c = rw c.into_vec.ensures.units at c.from_vec.ensures.well_formed

pub returns-clause-string : goal.returns-clause-string
returns-clause-string g c = grind (arith, common_steps)

pub returns-clause-within : goal.returns-clause-within
returns-clause-within g c = grind (arith, common_steps)
