use Rattle.std.proofs.Common.{map, arith}
use Rattle.wide_forms.specs.EncodingForm.{code_units}
use Rattle.wide_forms.specs.Laws.Forms.{some_units}
use Rattle.wide_search.specs.Laws.Cuts.{substrings-none}
use Rattle.wide_ustr.proofs.BothEnds.{char-apart}
use Rattle.wide_utfstr.specs.View.{units_seen}
use Rattle.wide_utfstr.proofs.Matched.{slice-last}
use Rattle.wide_utfstr.proofs.split_ends.UtfStrMatchBackViewChar.last_match.Goals as goal

pub returns-in_default-clause-none : goal.returns-in_default-clause-none
returns-in_default-clause-none g c = substrings-none (code_units g.C.Unit.form c.args.c) (map g.C.Unit.number (units_seen c.args.self)) c.in_default.ensures.none

pub returns-clause-some : goal.returns-clause-some
returns-clause-some g c =
    slice-last g.C.Unit.number (code_units g.C.Unit.form c.args.c) (units_seen c.args.self) (units_seen c.split_at.result.0) (units_seen c.slice.result) c.in-Some.at c.char_len.result _
    (char-apart g.C.Unit.form c.args.c c.ranges.c.0) (some_units g.C.Unit.form c.args.c) c.char_len.ensures.value (omega arith) c.in-Some.ensures.last c.split_at.ensures.prefix c.slice.ensures
