use Rattle.std.proofs.Common.{◌∙◌, ap, arith, length}
use Rattle.std.specs.Prelude.{map}
use Rattle.wide_search.specs.Cut.{substrings}
use Rattle.wide_search.specs.Substrings.{joined_with}
use Rattle.wide_ustr.proofs.Few.{splitn-whole, joined-substrings, length-splitn}
use Rattle.wide_forms.specs.EncodingForm.{code_units}
use Rattle.wide_ustr.specs.View.{units_seen}
use Rattle.wide_ustr.proofs.Few.{limited-kept}
use Rattle.wide_ustr.proofs.view.UStr.splitn_char.Goals as goal

pub returns-clause-left : goal.returns-clause-left
returns-clause-left g c = c.new.ensures ∙ limited-kept c.args.count (code_units g.C.Unit.form c.args.c) (map g.C.Unit.number (units_seen c.args.self))

pub returns-clause-joined : goal.returns-clause-joined
returns-clause-joined g c = λ some.
    let needle = code_units g.C.Unit.form c.args.c in
    ap (joined_with needle) (returns-clause-left g c) ∙ joined-substrings needle (map g.C.Unit.number (units_seen c.args.self)) c.args.count some

pub returns-clause-whole : goal.returns-clause-whole
returns-clause-whole g c = λ one. (returns-clause-left g c) ∙ splitn-whole (code_units g.C.Unit.form c.args.c) (map g.C.Unit.number (units_seen c.args.self)) c.args.count one

pub returns-clause-most : goal.returns-clause-most
returns-clause-most g c =
    let needle = code_units g.C.Unit.form c.args.c in
    omega (arith, ap length (returns-clause-left g c), length-splitn needle c.args.count (substrings needle (map g.C.Unit.number (units_seen c.args.self))))

pub returns-clause-fits : goal.returns-clause-fits
returns-clause-fits g c =
    let needle = code_units g.C.Unit.form c.args.c in
    omega (arith, c.ranges.count, ap length (returns-clause-left g c), length-splitn needle c.args.count (substrings needle (map g.C.Unit.number (units_seen c.args.self))))
