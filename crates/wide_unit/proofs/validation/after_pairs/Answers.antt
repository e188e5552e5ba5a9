use Rattle.std.proofs.Common.{refl}
use Rattle.wide_unit.proofs.Alone.{beyond}
use Rattle.wide_unit.proofs.validation.after_pairs.Goals as goal

pub returns-clause-text : goal.returns-clause-text
returns-clause-text g c = beyond g.C.Unit.form g.C.Unit.number c.args.units.now c.leading_pairs.result _ refl c.leading_pairs.ensures.text
