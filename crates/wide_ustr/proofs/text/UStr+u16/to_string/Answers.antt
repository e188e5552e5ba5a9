use Rattle.std.proofs.Common.{ap, ◌∙◌}
use Rattle.std.proofs.lemmas.List.{map-id}
use Rattle.wide_forms.specs.EncodingForm.{Utf16}
use Rattle.wide_forms.specs.Items.{chars}
use Rattle.wide_forms.specs.Utf8.{utf8}
use Rattle.wide_ustr.specs.View.{units_seen}
use Rattle.wide_ustr.proofs.text.UStr+u16.to_string.Goals as goal

pub returns-in_ok-utf8_string-in-Ok-clause-text : goal.returns-in_ok-utf8_string-in-Ok-clause-text
returns-in_ok-utf8_string-in-Ok-clause-text g c =
    c.in_ok-utf8_string-in-Ok.ensures.text ∙ ap (λ us. utf8 (chars Utf16 us)) (map-id (units_seen c.args.self))
