use Rattle.std.proofs.Common.{◌∙◌, ap, arith, length, map}
use Rattle.wide_forms.specs.EncodingForm.{code_units}
use Rattle.wide_search.specs.Cut.{substrings}
use Rattle.wide_ustr.specs.SplitInclusive.{joined}
use Rattle.wide_ustr.specs.View.{units_seen}
use Rattle.wide_ustr.proofs.Inclusive.{inclusive-whole, length-inclusive}
use Rattle.wide_ustr.proofs.SubstringCounts.{few_units, substrings-most}
use Rattle.wide_ustr.proofs.Inclusive.{inclusive-kept}
use Rattle.wide_ustr.proofs.view.UStr.split_inclusive_char.Goals as goal

pub returns-clause-left : goal.returns-clause-left
returns-clause-left g c = c.new.ensures ∙ inclusive-kept (code_units g.C.Unit.form c.args.c) (map g.C.Unit.number (units_seen c.args.self))

pub returns-clause-joined : goal.returns-clause-joined
returns-clause-joined g c = ap joined (returns-clause-left g c) ∙ inclusive-whole (code_units g.C.Unit.form c.args.c) (map g.C.Unit.number (units_seen c.args.self))

pub returns-clause-most : goal.returns-clause-most
returns-clause-most g c =
    let needle = code_units g.C.Unit.form c.args.c in
    omega (arith, ap length (returns-clause-left g c), length-inclusive needle (substrings needle (map g.C.Unit.number (units_seen c.args.self))), substrings-most g.C.Unit.number needle (units_seen c.args.self))

pub returns-clause-fits : goal.returns-clause-fits
returns-clause-fits g c =
    let needle = code_units g.C.Unit.form c.args.c in
    omega (arith, ap length (returns-clause-left g c), length-inclusive needle (substrings needle (map g.C.Unit.number (units_seen c.args.self))), substrings-most g.C.Unit.number needle (units_seen c.args.self), few_units g.C.Unit.form (length (units_seen c.args.self)) c.byte_len-bytes.result c.byte_len-bytes.ensures.len c.byte_len-bytes.ensures.bound)
