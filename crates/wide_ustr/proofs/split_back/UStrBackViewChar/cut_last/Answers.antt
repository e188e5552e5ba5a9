use Rattle.std.proofs.Common.{map}
use Rattle.std.specs.Prelude.{reverse}
use Rattle.wide_forms.specs.EncodingForm.{code_units}
use Rattle.wide_forms.specs.Laws.Forms.{some_units}
use Rattle.wide_ustr.specs.View.{units_seen}
use Rattle.wide_ustr.proofs.KeptCuts.{kept-none, kept-next}
use Rattle.wide_ustr.proofs.Mirrored.{back-cut-none, back-cut-next, back-none, back-last, last-split}
use Rattle.wide_ustr.proofs.split_back.UStrBackViewChar.cut_last.Goals as goal

pub returns-in_default-clause-none : goal.returns-in_default-clause-none
returns-in_default-clause-none g c = back-cut-none (code_units g.C.Unit.form c.args.c) (map g.C.Unit.number (units_seen c.args.self)) (back-none (code_units g.C.Unit.form c.args.c) (map g.C.Unit.number (units_seen c.args.self)) c.in_default.ensures.none)

pub returns-clause-some : goal.returns-clause-some
returns-clause-some g c =
    let number = g.C.Unit.number in
    let needle = code_units g.C.Unit.form c.args.c in
    let us = units_seen c.args.self in
    let prefix = units_seen c.split_at.result.0 in
    let rest = units_seen c.split_at-2.result.1 in
    let split = last-split number needle us prefix rest c.in-Some.at c.char_len.result c.char_len.ensures.value c.in-Some.ensures.last c.split_at.ensures.prefix c.split_at-2.ensures.back in
    back-cut-next needle (map number us) (map number prefix) (map number rest) (back-last needle (map number us) (map number prefix) (map number rest) (some_units g.C.Unit.form c.args.c) split)

pub returns-in_default-clause-kept_none : goal.returns-in_default-clause-kept_none
returns-in_default-clause-kept_none g c = kept-none (reverse (code_units g.C.Unit.form c.args.c)) (reverse (map g.C.Unit.number (units_seen c.args.self))) _ (returns-in_default-clause-none g c)

pub returns-clause-kept_some : goal.returns-clause-kept_some
returns-clause-kept_some g c = kept-next (reverse (code_units g.C.Unit.form c.args.c)) (reverse (map g.C.Unit.number (units_seen c.args.self))) _ _ (returns-clause-some g c)
