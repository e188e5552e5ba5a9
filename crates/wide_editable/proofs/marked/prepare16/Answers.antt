use Rattle.std.proofs.Common.{subst}
use Rattle.std.specs.Prelude.{IfOk}
use Rattle.std.proofs.lemmas.List.{map-id}
use Rattle.wide_forms.specs.EncodingForm.{Utf16}
use Rattle.wide_forms.specs.Items.{chars}
use Rattle.wide_editable.specs.Edited.{HasReplySpace}
use Rattle.wide_editable.proofs.marked.prepare16.Goals as goal

pub returns-clause-space : goal.returns-clause-space
returns-clause-space c = subst (λ us. IfOk c.prepare_at.result (λ space. HasReplySpace (chars Utf16 us) c.args.edit space)) (map-id c.prepare_at.new.s.units) c.prepare_at.ensures.space
