use Rattle.std.proofs.Common.{arith}
use Rattle.wide_forms.specs.EncodingForm.{code_units}
use Rattle.wide_search.specs.Sought.{units_of_few}
use Rattle.wide_search.proofs.Characters.{ends-numbers}
use Rattle.wide_search.proofs.chars.ends_with_char.Goals as goal

pub returns : goal.returns
returns g c =
    let needle = units_of_few c.of_char-few.result in
    ends-numbers g.C.Unit.number g.met.C.Unit.same needle c.args.units.now (code_units g.C.Unit.form c.args.c) c.of_char-few.ensures c.split_at.result.1.now c.len-len.result c.len-len.ensures c.split_at.ensures.back (omega (arith, c.if-units-len.false)) c.is_prefix_of.ensures
