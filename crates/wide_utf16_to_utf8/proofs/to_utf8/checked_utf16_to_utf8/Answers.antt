use Rattle.std.proofs.Common.{take}
use Rattle.wide_utf16_to_utf8.proofs.EncodedPrefixes.{stop-end, whole-valid, whole-text}
use Rattle.wide_utf16_to_utf8.proofs.to_utf8.checked_utf16_to_utf8.Goals as goal

pub returns-then-step-units-clause-valid : goal.returns-then-step-units-clause-valid
returns-then-step-units-clause-valid c =
    whole-valid c.args.units.now c.utf16_to_utf8_until_fault-step.result.read (take c.utf16_to_utf8_until_fault-step.result.written c.utf16_to_utf8_until_fault-step.new.out) c.utf16_to_utf8_until_fault-step.ensures.text c.if-step-units.true

pub returns-then-step-units-clause-text : goal.returns-then-step-units-clause-text
returns-then-step-units-clause-text c =
    whole-text c.args.units.now c.utf16_to_utf8_until_fault-step.result.read (take c.utf16_to_utf8_until_fault-step.result.written c.utf16_to_utf8_until_fault-step.new.out) c.utf16_to_utf8_until_fault-step.ensures.text c.if-step-units.true

pub returns-else-step-units-clause-fault : goal.returns-else-step-units-clause-fault
returns-else-step-units-clause-fault c = λ well.
    let e = c.utf16_to_utf8_until_fault-step.ensures in
    c.if-step-units.false (stop-end c.args.units.now c.utf16_to_utf8_until_fault-step.result.read (take c.utf16_to_utf8_until_fault-step.result.written c.utf16_to_utf8_until_fault-step.new.out) e.text c.utf16_to_utf8_until_fault-step.result.fault well e.read e.stop)
