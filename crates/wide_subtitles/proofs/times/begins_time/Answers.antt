use Rattle.wide_subtitles.proofs.Readings.{begins_read}
use Rattle.wide_subtitles.proofs.times.begins_time.Goals as goal

pub returns : goal.returns
returns c =
    begins_read c.args.units.now c.after_blanks.result (λ read. read.1) (λ read. read.0) c.time_at.result c.is_some.result c.after_blanks.ensures.end c.is_some.ensures c.time_at.ensures.some c.time_at.ensures.none
