use Rattle.std.proofs.Common.{map, subst, ◌↔◌}
use Rattle.std.specs.Prelude.{OnOk, IsOk}
use Rattle.wide_forms.specs.Items.{IsWellFormed}
use Rattle.wide_utfstr.proofs.view.UtfStr.from_ucstr.Goals as goal

pub returns-clause-ok : goal.returns-clause-ok
returns-clause-ok g c = subst (λ us. OnOk c.from_slice.result (IsWellFormed g.C.Unit.form (map g.C.Unit.number us))) c.as_slice.ensures.units c.from_slice.ensures.ok

pub returns-clause-well_formed : goal.returns-clause-well_formed
returns-clause-well_formed g c = subst (λ us. IsOk c.from_slice.result ↔ (IsWellFormed g.C.Unit.form (map g.C.Unit.number us))) c.as_slice.ensures.units c.from_slice.ensures.well_formed
