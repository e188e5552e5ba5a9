use Rattle.std.proofs.Common.{refl, ap, ◌∙◌, map}
use Rattle.wide_forms.specs.Items.{chars}
use Rattle.wide_forms.specs.Laws.Splices.{chars-nil}
use Rattle.wide_editable.proofs.operations.clear.Goals as goal

pub returns-clause-made : goal.returns-clause-made
returns-clause-made g c = record { text = ap (λ us. chars g.C.Unit.form (map g.C.Unit.number us)) c.clear.ensures.units ∙ chars-nil g.C.Unit.form; replied = refl }
