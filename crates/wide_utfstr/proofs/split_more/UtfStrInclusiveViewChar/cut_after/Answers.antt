use Rattle.std.proofs.Common.{map}
use Rattle.wide_forms.specs.EncodingForm.{code_units}
use Rattle.wide_forms.specs.Laws.Forms.{some_units}
use Rattle.wide_search.specs.Laws.Cuts.{substrings-none}
use Rattle.wide_utfstr.specs.View.{units_seen}
use Rattle.wide_ustr.proofs.Inclusive.{cut-after}
use Rattle.wide_ustr.proofs.KeptCuts.{kept-none}
use Rattle.wide_utfstr.proofs.split_more.UtfStrInclusiveViewChar.cut_after.Goals as goal

pub returns-in_default-clause-none : goal.returns-in_default-clause-none
returns-in_default-clause-none g c = kept-none _ _ _ (substrings-none (code_units g.C.Unit.form c.args.c) (map g.C.Unit.number (units_seen c.args.self)) c.in_default.ensures.none)

pub returns-clause-some : goal.returns-clause-some
returns-clause-some g c =
    cut-after g.C.Unit.number (code_units g.C.Unit.form c.args.c) (units_seen c.args.self) (units_seen c.split_at.result.0) (units_seen c.split_at.result.1) c.in-Some.at c.char_len.result
    (some_units g.C.Unit.form c.args.c) c.char_len.ensures.value c.in-Some.ensures.first c.split_at.ensures.prefix c.split_at.ensures.back
