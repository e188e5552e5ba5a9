use Rattle.std.proofs.Common.{sym, subst, map, ap, arith, length}
use Rattle.wide_forms.specs.EncodingForm.{code_units}
use Rattle.wide_forms.specs.Laws.Forms.{some_units}
use Rattle.wide_search.specs.Cut.{substrings-are}
use Rattle.wide_search.specs.Substrings.{AreSubstrings}
use Rattle.wide_ustr.proofs.SubstringCounts.{substrings-most, substrings-fit}
use Rattle.wide_ustr.specs.View.{units_seen}
use Rattle.wide_ustr.proofs.view.UStr.split_char.Goals as goal

pub returns-clause-cut : goal.returns-clause-cut
returns-clause-cut g c =
    let needle = code_units g.C.Unit.form c.args.c in
    let us = map g.C.Unit.number (units_seen c.args.self) in
    subst (λ ps. AreSubstrings needle us ps) (sym c.new.ensures) (substrings-are needle us (some_units g.C.Unit.form c.args.c))

pub returns-clause-most : goal.returns-clause-most
returns-clause-most g c =
    let number = g.C.Unit.number in
    omega (arith, ap length c.new.ensures, substrings-most number (code_units g.C.Unit.form c.args.c) (units_seen c.args.self))

pub returns-clause-fits : goal.returns-clause-fits
returns-clause-fits g c =
    let number = g.C.Unit.number in
    omega (arith, ap length c.new.ensures, substrings-fit number (code_units g.C.Unit.form c.args.c) (units_seen c.args.self) g.C.Unit.form c.byte_len-bytes.result c.byte_len-bytes.ensures.len c.byte_len-bytes.ensures.bound)
