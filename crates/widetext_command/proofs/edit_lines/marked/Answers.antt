use Rattle.std.proofs.Common.{ap, sym, ◌∙◌}
use Rattle.std.proofs.lemmas.List.{map-id}
use Rattle.wide_forms.specs.EncodingForm.{Utf16}
use Rattle.wide_forms.specs.Items.{chars}
use Rattle.widetext_command.proofs.edit_lines.marked.Goals as goal

pub returns-in-Ok : goal.returns-in-Ok
returns-in-Ok c = ap (λ s. chars Utf16 s.units) c.in-Ok.ensures.ok ∙ ap (chars Utf16) (sym (map-id c.in_ok-from_str.field-0.units)) ∙ c.in_ok-from_str.ensures.text
