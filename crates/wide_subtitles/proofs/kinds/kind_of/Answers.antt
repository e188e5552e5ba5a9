use Rattle.std.proofs.Common.{refl}
use Rattle.wide_subtitles.proofs.Numbers.{blank_no_line, blank_no_number, fault_of, has_none, has_times, number_no_line}
use Rattle.wide_subtitles.proofs.kinds.kind_of.Goals as goal

pub returns-then-is_blank-clause-times : goal.returns-then-is_blank-clause-times
returns-then-is_blank-clause-times c =
    has_none c.args.units.now (blank_no_line c.args.units.now (c.if-is_blank.ensures.0 refl))

pub returns-then-is_blank-clause-number : goal.returns-then-is_blank-clause-number
returns-then-is_blank-clause-number c =
    (λ e. cc, λ h. absurd (blank_no_number c.args.units.now (c.if-is_blank.ensures.0 refl) h))

pub returns-then-is_number-clause-times : goal.returns-then-is_number-clause-times
returns-then-is_number-clause-times c =
    has_none c.args.units.now (number_no_line c.args.units.now (c.if-is_number.ensures.0 refl))

pub returns-in-Ok-clause-times : goal.returns-in-Ok-clause-times
returns-in-Ok-clause-times c = λ times.
    has_times c.args.units.now c.in-Ok.times times c.in-Ok.ensures.line

pub returns-in-Err-clause-times : goal.returns-in-Err-clause-times
returns-in-Err-clause-times c = has_none c.args.units.now c.in-Err.ensures.no_line

pub returns-in-Err-2-clause-times : goal.returns-in-Err-2-clause-times
returns-in-Err-2-clause-times c = has_none c.args.units.now c.in-Err-2.ensures.no_line

pub returns-in-Err-clause-fault : goal.returns-in-Err-clause-fault
returns-in-Err-clause-fault c = λ unit e. fault_of c.args.units.now c.in-Err.unit unit c.in-Err.ensures.fault e
