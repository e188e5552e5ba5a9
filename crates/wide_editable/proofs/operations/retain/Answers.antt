use Rattle.std.proofs.Common.{rules, refl}
use Rattle.std.proofs.lemmas.Fn.{filter_same}
use Rattle.wide_editable.proofs.operations.retain.Goals as goal

pub returns-clause-made : goal.returns-clause-made
returns-clause-made g c = record { text = filter_same _ _ _ (λ x b f' k. search rules) _ _ c.retain.ensures.filtered; replied = refl }
