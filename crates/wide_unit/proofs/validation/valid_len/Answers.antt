use Rattle.std.proofs.Common.{subst}
use Rattle.std.proofs.lemmas.List.{take-map}
use Rattle.wide_forms.specs.Items.{IsWellFormed}
use Rattle.wide_unit.proofs.Faults.{first_fault-prefix}
use Rattle.wide_unit.proofs.validation.valid_len.Goals as goal

pub returns-in-Some-clause-valid : goal.returns-in-Some-clause-valid
returns-in-Some-clause-valid g c = subst (IsWellFormed g.C.Unit.form) (take-map g.C.Unit.number c.in-Some.index c.args.units.now) (first_fault-prefix _ _ _ _ _ c.in-Some.ensures.some)
