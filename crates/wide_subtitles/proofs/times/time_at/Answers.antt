use Rattle.std.proofs.Common.{refl, ◌∙◌, get_or}
use Rattle.wide_subtitles.proofs.Parts.{time_from_parts}
use Rattle.wide_subtitles.proofs.Readings.{begun, if_none, no_hours, no_minutes, no_point, no_rest, no_seconds, form_read, point_read, rest_read, size_read, start_of}
use Rattle.wide_subtitles.proofs.times.time_at.Goals as goal

pub returns-in_err-hours-clause-none : goal.returns-in_err-hours-clause-none
returns-in_err-hours-clause-none c =
    let units = c.args.units.now in
    let b = begun units c.args.at c.unwrap_or.result c.after_unit-negative.result c.after_unit-negative.ensures.some c.after_unit-negative.ensures.end c.unwrap_or.ensures in
    if_none c.from_residual.result (no_hours units c.args.at c.unwrap_or.result b c.in_err-hours.ensures.some)

pub returns-in_err-minutes-clause-none : goal.returns-in_err-minutes-clause-none
returns-in_err-minutes-clause-none c =
    let units = c.args.units.now in
    let b = begun units c.args.at c.unwrap_or.result c.after_unit-negative.result c.after_unit-negative.ensures.some c.after_unit-negative.ensures.end c.unwrap_or.ensures in
    if_none c.from_residual-in_err-minutes.result (no_minutes units c.args.at c.unwrap_or.result c.in_ok-hours.hours.end b c.in_ok-hours.ensures.end c.in_err-minutes.ensures.some)

pub returns-in_err-seconds-clause-none : goal.returns-in_err-seconds-clause-none
returns-in_err-seconds-clause-none c =
    let units = c.args.units.now in
    let b = begun units c.args.at c.unwrap_or.result c.after_unit-negative.result c.after_unit-negative.ensures.some c.after_unit-negative.ensures.end c.unwrap_or.ensures in
    if_none c.from_residual-in_err-seconds.result (no_seconds units c.args.at c.unwrap_or.result c.in_ok-hours.hours.end c.in_ok-minutes.minutes.end b c.in_ok-hours.ensures.end c.in_ok-minutes.ensures.end c.in_err-seconds.ensures.some)

pub returns-in_err-after_point-clause-none : goal.returns-in_err-after_point-clause-none
returns-in_err-after_point-clause-none c =
    let units = c.args.units.now in
    let b = begun units c.args.at c.unwrap_or.result c.after_unit-negative.result c.after_unit-negative.ensures.some c.after_unit-negative.ensures.end c.unwrap_or.ensures in
    if_none c.from_residual-in_err-after_point.result (no_point units c.args.at c.unwrap_or.result c.in_ok-hours.hours.end c.in_ok-minutes.minutes.end c.in_ok-seconds.seconds.end b c.in_ok-hours.ensures.end c.in_ok-minutes.ensures.end c.in_ok-seconds.ensures.end c.in_err-after_point.ensures.some)

pub returns-in_err-rest-clause-none : goal.returns-in_err-rest-clause-none
returns-in_err-rest-clause-none c =
    let units = c.args.units.now in
    let b = begun units c.args.at c.unwrap_or.result c.after_unit-negative.result c.after_unit-negative.ensures.some c.after_unit-negative.ensures.end c.unwrap_or.ensures in
    if_none c.from_residual-in_err-rest.result (no_rest units c.args.at c.unwrap_or.result c.in_ok-hours.hours.end c.in_ok-minutes.minutes.end c.in_ok-seconds.seconds.end c.in_ok-after_point.field-0 b c.in_ok-hours.ensures.end c.in_ok-minutes.ensures.end c.in_ok-seconds.ensures.end c.in_ok-after_point.ensures.end c.in_err-rest.ensures.some)

pub returns-clause-some : goal.returns-clause-some
returns-clause-some c =
    let units = c.args.units.now in
    let dot = c.in_ok-seconds.seconds.end in
    let begin = c.in_ok-after_point.ensures.end in
    let point = point_read units dot (c.in_ok-after_point.ensures.some.0 refl) in
    time_from_parts units c.args.at c.in_ok-rest.rest.end _ (record {
      start = c.unwrap_or.result;
      colon = c.in_ok-hours.hours.end;
      next = c.in_ok-minutes.minutes.end;
      dot = dot;
      point = get_or units dot 0;
      sign = rw c.is_some-is_negative.ensures (c.after_unit-negative.ensures.some.1, c.after_unit-negative.ensures.some.0);
      is_start = rw c.is_some-is_negative.ensures (start_of c.args.at c.unwrap_or.result c.after_unit-negative.result c.after_unit-negative.ensures.end c.unwrap_or.ensures);
      hours = c.in_ok-hours.ensures.some.0 refl;
      is_colon = c.in_ok-hours.ensures.end;
      has_colon = (c.in_ok-minutes.ensures.some.0 refl).0;
      minutes = (c.in_ok-minutes.ensures.some.0 refl).1;
      is_next = c.in_ok-minutes.ensures.end;
      has_next = (c.in_ok-seconds.ensures.some.0 refl).0;
      seconds = (c.in_ok-seconds.ensures.some.0 refl).1;
      is_dot = c.in_ok-seconds.ensures.end;
      has_dot = point.0;
      is_point = point.1;
      rest = rw begin at (c.in_ok-rest.ensures.some.0 refl);
      is_end = rw begin at c.in_ok-rest.ensures.end;
      size = size_read (c.from.ensures ∙ c.in_ok-hours.ensures.value) (c.from-2.ensures ∙ c.in_ok-minutes.ensures.value) (c.from-3.ensures ∙ c.in_ok-seconds.ensures.value) (rest_read c.thousandths.ensures.value (rw begin at c.in_ok-rest.ensures.value) (rw begin at c.in_ok-rest.ensures.len));
      usual = form_read c.is_some-is_negative.result (get_or units dot 0) c.is_usual.ensures c.in_ok-hours.ensures.len c.in_ok-minutes.ensures.len c.in_ok-seconds.ensures.len (rw begin at c.in_ok-rest.ensures.len);
    })
