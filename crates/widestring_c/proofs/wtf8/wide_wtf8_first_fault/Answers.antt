use Rattle.std.proofs.Common.{arith, refl}
use Rattle.wide_wtf8.specs.Laws.{fault-no_text}
use Rattle.widestring_c.proofs.wtf8.wide_wtf8_first_fault.Goals as goal

pub returns-in-Ok-clause-well_formed : goal.returns-in-Ok-clause-well_formed
returns-in-Ok-clause-well_formed c = (λ same. c.in-Ok.ensures.valid.0 refl, λ text. refl)

pub returns-in-Err-clause-well_formed : goal.returns-in-Err-clause-well_formed
returns-in-Err-clause-well_formed c =
    let fault = c.in-Err.ensures.fault in
    (λ same. absurd (omega (arith, same, fault.some, fault.within)), λ text. absurd (fault-no_text c.args.text.now c.in-Err.fault.index c.in-Err.fault.len fault text))

pub returns-in-Err-clause-fault : goal.returns-in-Err-clause-fault
returns-in-Err-clause-fault c = λ below. (c.in-Err.fault.len, c.in-Err.ensures.fault)

pub returns-in-Err-clause-within : goal.returns-in-Err-clause-within
returns-in-Err-clause-within c = let fault = c.in-Err.ensures.fault in omega (arith, fault.some, fault.within)
