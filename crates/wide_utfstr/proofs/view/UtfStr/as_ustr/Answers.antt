use Rattle.std.proofs.Common.{map, sym, subst}
use Rattle.wide_forms.specs.Items.{IsWellFormed}
use Rattle.wide_utfstr.proofs.view.UtfStr.as_ustr.Goals as goal

pub returns-clause-well_formed : goal.returns-clause-well_formed
returns-clause-well_formed g c = subst (λ us. IsWellFormed g.C.Unit.form (map g.C.Unit.number us)) (sym c.from_slice.ensures) c.args.self.well_formed
