use Rattle.std.proofs.Common.{sym, ◌∙◌}
use Rattle.std.proofs.lemmas.Bool.{le-ltb, false≢true}
use Rattle.std.proofs.lemmas.List.{take_rest}
use Rattle.wide_subtitles.proofs.Numbers.{no_number_read, number_read, rest_read}
use Rattle.wide_subtitles.proofs.kinds.is_number.Goals as goal

pub returns-then-digits-gt0 : goal.returns-then-digits-gt0
returns-then-digits-gt0 c =
    let units = c.args.units.now in
    number_read units _ _ c.digits_len-digits.result (rest_read units c.padding_len.result c.padding_len.ensures) c.digits_len-digits.ensures (take_rest _ c.digits_len-digits.result) c.if-digits-gt0.true c.is_only_padding.ensures

pub returns-else-digits-gt0 : goal.returns-else-digits-gt0
returns-else-digits-gt0 c =
    let units = c.args.units.now in
    let none = no_number_read units _ c.digits_len-digits.result (rest_read units c.padding_len.result c.padding_len.ensures) c.digits_len-digits.ensures c.if-digits-gt0.false in
    (λ e. absurd (false≢true (sym (le-ltb 0 c.digits_len-digits.result c.if-digits-gt0.false) ∙ e)), λ h. absurd (none h))
