use Rattle.std.proofs.Common.{◌≡◌, ◌++◌, ap, map, ◌∙◌}
use Rattle.std.specs.Str.{chars}
use Rattle.wide_forms.specs.EncodingForm.{encode}
use Rattle.wide_forms.specs.Items.{chars as text_chars}
use Rattle.wide_forms.specs.Utf8.{utf8}
use Rattle.wide_forms.specs.Laws.Texts.{text-back}
use Rattle.wide_ustring.proofs.ustring.UString.from_str.Goals as goal

pub returns-clause-read_back : goal.returns-clause-read_back
returns-clause-read_back g c =
    let form = g.C.Unit.form in
    let number = g.C.Unit.number in
    let text = c.args.text.now in
    let written : map number c.push_str.new.units.items ≡ encode form (chars text) = c.in_ok-push_str.ensures.ok ∙ ap (λ us. map number us ++ encode form (chars text)) c.new-units.ensures.items in
    ap (λ us. utf8 (text_chars form us)) written ∙ text-back form text c.utf8.text
