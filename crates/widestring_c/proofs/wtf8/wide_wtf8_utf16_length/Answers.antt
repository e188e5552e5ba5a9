use Rattle.std.proofs.Common.{◌∙◌, ap, arith, length, refl}
use Rattle.wide_wtf8.specs.Laws.{fault-no_text, few-units, is-text}
use Rattle.widestring_c.proofs.Wtf8Texts.{one-list}
use Rattle.widestring_c.proofs.wtf8.wide_wtf8_utf16_length.Goals as goal

pub returns-in-Ok-clause-len : goal.returns-in-Ok-clause-len
returns-in-Ok-clause-len c = λ us is. let k = c.in-Ok.ensures.len in k.2 ∙ ap length (one-list k.0 us c.args.text.now k.1 is)

pub returns-in-Ok-clause-fault : goal.returns-in-Ok-clause-fault
returns-in-Ok-clause-fault c = λ none. absurd (none (c.in-Ok.ensures.valid.0 refl))

pub returns-in-Ok-clause-no_fault : goal.returns-in-Ok-clause-no_fault
returns-in-Ok-clause-no_fault c = λ text. let k = c.in-Ok.ensures.len in omega (arith, k.2, few-units c.args.text.now k.0 k.1)

pub returns-in-Err-clause-len : goal.returns-in-Err-clause-len
returns-in-Err-clause-len c = λ us is. absurd (fault-no_text c.args.text.now c.in-Err._fault.index c.in-Err._fault.len c.in-Err.ensures.fault (is-text c.args.text.now us is))

pub returns-in-Err-clause-no_fault : goal.returns-in-Err-clause-no_fault
returns-in-Err-clause-no_fault c = λ text. absurd (fault-no_text c.args.text.now c.in-Err._fault.index c.in-Err._fault.len c.in-Err.ensures.fault text)
