use Rattle.std.proofs.Common.{refl}
use Rattle.wide_subtitles.proofs.Readings.{arrow_read, if_none, no_first, no_head, no_second}
use Rattle.wide_subtitles.proofs.times.after_arrow.Goals as goal

pub returns-in_err-first-clause-none : goal.returns-in_err-first-clause-none
returns-in_err-first-clause-none c =
    if_none c.from_residual.result (no_first c.args.units.now c.args.at c.after_blanks.result c.after_blanks.ensures.end c.in_err-first.ensures.some)

pub returns-in_err-second-clause-none : goal.returns-in_err-second-clause-none
returns-in_err-second-clause-none c =
    if_none c.from_residual-in_err-second.result (no_second c.args.units.now c.args.at c.after_blanks.result c.in_ok-first.first c.after_blanks.ensures.end c.in_ok-first.ensures.end c.in_err-second.ensures.some)

pub returns-in_err-end-clause-none : goal.returns-in_err-end-clause-none
returns-in_err-end-clause-none c =
    if_none c.from_residual-in_err-end.result (no_head c.args.units.now c.args.at c.after_blanks.result c.in_ok-first.first c.in_ok-second.second c.after_blanks.ensures.end c.in_ok-first.ensures.end c.in_ok-second.ensures.end c.in_err-end.ensures.some)

pub returns-clause-some : goal.returns-clause-some
returns-clause-some c =
    arrow_read c.args.units.now c.args.at c.after_blanks.result c.in_ok-first.first c.in_ok-second.second c.in_ok-end.end c.after_blanks-2.result c.after_blanks.ensures.end (c.in_ok-first.ensures.some.0 refl) c.in_ok-first.ensures.end (c.in_ok-second.ensures.some.0 refl) c.in_ok-second.ensures.end (c.in_ok-end.ensures.some.0 refl) c.in_ok-end.ensures.end c.after_blanks-2.ensures.end
