use Rattle.std.proofs.Common.{map}
use Rattle.wide_forms.specs.EncodingForm.{code_units}
use Rattle.wide_forms.specs.Laws.Forms.{some_units}
use Rattle.wide_search.specs.Laws.Cuts.{substrings-none}
use Rattle.wide_ustr.specs.View.{units_seen}
use Rattle.wide_ustr.proofs.BothEnds.{char-apart}
use Rattle.wide_ustr.proofs.MatchedEnds.{last-match}
use Rattle.wide_ustr.proofs.matches.UStrMatchBackViewChar.last_match.Goals as goal

pub returns-in_default-clause-none : goal.returns-in_default-clause-none
returns-in_default-clause-none g c = substrings-none (code_units g.C.Unit.form c.args.c) (map g.C.Unit.number (units_seen c.args.self)) c.in_default.ensures.none

pub returns-clause-some : goal.returns-clause-some
returns-clause-some g c =
    last-match g.C.Unit.number (code_units g.C.Unit.form c.args.c) (units_seen c.args.self) (units_seen c.split_at.result.0) (units_seen c.split_at.result.1) (units_seen c.split_at-2.result.0) c.in-Some.at c.char_len.result
    (char-apart g.C.Unit.form c.args.c c.ranges.c.0) (some_units g.C.Unit.form c.args.c) c.char_len.ensures.value c.in-Some.ensures.last c.split_at.ensures.prefix c.split_at.ensures.back c.split_at-2.ensures.prefix
