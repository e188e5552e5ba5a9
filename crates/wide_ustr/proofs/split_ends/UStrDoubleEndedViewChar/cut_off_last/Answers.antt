use Rattle.std.proofs.Common.{map}
use Rattle.wide_forms.specs.EncodingForm.{code_units}
use Rattle.wide_forms.specs.Laws.Forms.{some_units}
use Rattle.wide_search.specs.Laws.Cuts.{substrings-none}
use Rattle.wide_ustr.specs.View.{units_seen}
use Rattle.wide_ustr.proofs.BothEnds.{char-apart, substrings-last}
use Rattle.wide_ustr.proofs.Mirrored.{last-split}
use Rattle.wide_ustr.proofs.split_ends.UStrDoubleEndedViewChar.cut_off_last.Goals as goal

pub returns-in_default-clause-none : goal.returns-in_default-clause-none
returns-in_default-clause-none g c = substrings-none (code_units g.C.Unit.form c.args.c) (map g.C.Unit.number (units_seen c.args.self)) c.in_default.ensures.none

pub returns-clause-some : goal.returns-clause-some
returns-clause-some g c =
    let form = g.C.Unit.form in
    let number = g.C.Unit.number in
    let needle = code_units form c.args.c in
    let us = units_seen c.args.self in
    let rest = units_seen c.split_at.result.0 in
    let substring = units_seen c.split_at-2.result.1 in
    let split = last-split number needle us rest substring c.in-Some.at c.char_len.result c.char_len.ensures.value c.in-Some.ensures.last c.split_at.ensures.prefix c.split_at-2.ensures.back in
    substrings-last needle (map number us) (map number rest) (map number substring) (char-apart form c.args.c c.ranges.c.0) (some_units form c.args.c) split
