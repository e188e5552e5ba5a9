use Rattle.wide_forms.specs.EncodingForm.{code_units}
use Rattle.wide_search.specs.Sought.{units_of_few}
use Rattle.wide_search.proofs.Characters.{begins-numbers}
use Rattle.wide_search.proofs.chars.starts_with_char.Goals as goal

pub returns : goal.returns
returns g c = begins-numbers g.C.Unit.number g.met.C.Unit.same (units_of_few c.of_char.result) c.args.units.now (code_units g.C.Unit.form c.args.c) c.of_char.ensures c.is_prefix_of.ensures
