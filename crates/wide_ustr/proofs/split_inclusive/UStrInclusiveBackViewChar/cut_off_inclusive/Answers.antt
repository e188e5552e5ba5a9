use Rattle.std.proofs.Common.{arith, map}
use Rattle.wide_forms.specs.EncodingForm.{code_units}
use Rattle.wide_forms.specs.Laws.Forms.{some_units}
use Rattle.wide_ustr.specs.View.{units_seen}
use Rattle.wide_ustr.proofs.BothEnds.{char-apart}
use Rattle.wide_ustr.proofs.Inclusive.{inclusive-only-kept, inclusive-rest-kept}
use Rattle.wide_ustr.proofs.InclusiveEnds.{inclusive-only, inclusive-rest}
use Rattle.wide_ustr.proofs.split_inclusive.UStrInclusiveBackViewChar.cut_off_inclusive.Goals as goal

pub returns-in_default-clause-none : goal.returns-in_default-clause-none
returns-in_default-clause-none g c =
    let us = units_seen c.args.self in
    let body = units_seen c.split_at.result.0 in
    inclusive-only-kept (code_units g.C.Unit.form c.args.c) (map g.C.Unit.number us)
    (inclusive-only g.C.Unit.number (code_units g.C.Unit.form c.args.c) us body c.saturating_sub.result (some_units g.C.Unit.form c.args.c) c.split_at.ensures.prefix (omega (arith, c.saturating_sub.ensures, c.len.ensures)) c.in_default.ensures.none)

pub returns-clause-some : goal.returns-clause-some
returns-clause-some g c =
    let us = units_seen c.args.self in
    let body = units_seen c.split_at.result.0 in
    inclusive-rest-kept (code_units g.C.Unit.form c.args.c) (map g.C.Unit.number us) (map g.C.Unit.number (units_seen c.split_at-2.result.0)) (map g.C.Unit.number (units_seen c.split_at-2.result.1))
    (inclusive-rest g.C.Unit.number (code_units g.C.Unit.form c.args.c) us body c.saturating_sub.result (some_units g.C.Unit.form c.args.c) c.split_at.ensures.prefix (omega (arith, c.saturating_sub.ensures, c.len.ensures))
    (units_seen c.split_at-2.result.0) (units_seen c.split_at-2.result.1) c.in-Some.at c.char_len.result (char-apart g.C.Unit.form c.args.c c.ranges.c.0) c.char_len.ensures.value c.in-Some.ensures.last c.split_at-2.ensures.prefix c.split_at-2.ensures.back)
