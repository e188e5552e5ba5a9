use Rattle.wide_unit.proofs.Alone.{beyond-alone}
use Rattle.std.proofs.Common.{refl}
use Rattle.wide_unit.proofs.validation.after_scalars.Goals as goal

pub returns-clause-text : goal.returns-clause-text
returns-clause-text g c = beyond-alone g.C.Unit.form g.C.Unit.number c.args.units.now c.leading_scalars.result _ c.leading_scalars.ensures refl
