use Rattle.std.proofs.Common.{map, subst, ◌↔◌, arith}
use Rattle.std.proofs.lemmas.Grind.{common_steps}
use Rattle.std.specs.Prelude.{OnOk, IsOk}
use Rattle.wide_forms.specs.Items.{IsWellFormed}
use Rattle.wide_utfstr.proofs.view.UtfStr.from_ustr.Goals as goal

pub returns-clause-ok : goal.returns-clause-ok
returns-clause-ok g c = subst (λ us. OnOk c.from_slice.result (IsWellFormed g.C.Unit.form (map g.C.Unit.number us))) c.as_slice.ensures c.from_slice.ensures.ok

pub returns-clause-well_formed : goal.returns-clause-well_formed
returns-clause-well_formed g c = subst (λ us. IsOk c.from_slice.result ↔ (IsWellFormed g.C.Unit.form (map g.C.Unit.number us))) c.as_slice.ensures c.from_slice.ensures.well_formed

pub returns-clause-view : goal.returns-clause-view
returns-clause-view g c = grind (arith, common_steps)

pub returns-clause-fault : goal.returns-clause-fault
returns-clause-fault g c = grind (arith, common_steps)

pub returns-clause-within : goal.returns-clause-within
returns-clause-within g c = grind (arith, common_steps)
