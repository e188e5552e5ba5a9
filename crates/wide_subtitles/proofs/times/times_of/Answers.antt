use Rattle.std.proofs.Common.{refl}
use Rattle.wide_subtitles.proofs.Readings.{fault_arrow, fault_begin, fault_end, fault_second, line_read, no_arrow, no_begin, no_end, no_line_end, not_so}
use Rattle.wide_subtitles.proofs.times.times_of.Goals as goal

pub returns-in_default-clause-no_line : goal.returns-in_default-clause-no_line
returns-in_default-clause-no_line c =
    no_begin c.args.units.now c.after_blanks-first.result c.after_blanks-first.ensures.end c.in_default.ensures.none

pub returns-in_default-after_arrow-clause-no_line : goal.returns-in_default-after_arrow-clause-no_line
returns-in_default-after_arrow-clause-no_line c =
    no_arrow c.args.units.now c.after_blanks-first.result c.in-Some.first_end c.in-Some.begin c.after_blanks-first.ensures.end c.in-Some.ensures.some c.in_default-after_arrow.ensures.none

pub returns-in_default-time_at-clause-no_line : goal.returns-in_default-time_at-clause-no_line
returns-in_default-time_at-clause-no_line c =
    no_end c.args.units.now c.after_blanks-first.result c.in-Some.first_end c.in-Some-after_arrow.second c.in-Some.begin c.after_blanks-first.ensures.end c.in-Some.ensures.some c.in-Some-after_arrow.ensures.some c.in_default-time_at.ensures.none

pub returns-then-not-is_end-clause-no_line : goal.returns-then-not-is_end-clause-no_line
returns-then-not-is_end-clause-no_line c =
    no_line_end c.args.units.now c.after_blanks-first.result c.in-Some.first_end c.in-Some-after_arrow.second c.in-Some-time_at.second_end c.in-Some.begin c.in-Some-time_at.end c.after_blanks-first.ensures.end c.in-Some.ensures.some c.in-Some-after_arrow.ensures.some c.in-Some-time_at.ensures.some (not_so c.if-not-is_end.ensures)

pub returns-clause-line : goal.returns-clause-line
returns-clause-line c =
    line_read c.args.units.now _ c.after_blanks-first.ensures.end c.in-Some.ensures.some c.in-Some-after_arrow.ensures.some c.in-Some-time_at.ensures.some (c.if-not-is_end.ensures.0 refl)

pub returns-in_default-clause-fault : goal.returns-in_default-clause-fault
returns-in_default-clause-fault c =
    fault_begin c.args.units.now c.after_blanks-first.result c.after_blanks-first.ensures.end c.in_default.ensures.none

pub returns-in_default-after_arrow-clause-fault : goal.returns-in_default-after_arrow-clause-fault
returns-in_default-after_arrow-clause-fault c =
    fault_arrow c.args.units.now c.after_blanks-first.result c.in-Some.first_end c.in-Some.begin c.after_blanks-first.ensures.end c.in-Some.ensures.some c.in_default-after_arrow.ensures.none

pub returns-in_default-time_at-clause-fault : goal.returns-in_default-time_at-clause-fault
returns-in_default-time_at-clause-fault c =
    fault_second c.args.units.now c.after_blanks-first.result c.in-Some.first_end c.in-Some-after_arrow.second c.in-Some.begin c.after_blanks-first.ensures.end c.in-Some.ensures.some c.in-Some-after_arrow.ensures.some c.in_default-time_at.ensures.none

pub returns-then-not-is_end-clause-fault : goal.returns-then-not-is_end-clause-fault
returns-then-not-is_end-clause-fault c =
    fault_end c.args.units.now c.after_blanks-first.result c.in-Some.first_end c.in-Some-after_arrow.second c.in-Some-time_at.second_end c.in-Some.begin c.in-Some-time_at.end c.after_blanks-first.ensures.end c.in-Some.ensures.some c.in-Some-after_arrow.ensures.some c.in-Some-time_at.ensures.some (not_so c.if-not-is_end.ensures)
