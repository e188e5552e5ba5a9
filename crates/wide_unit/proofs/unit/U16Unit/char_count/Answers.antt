use Rattle.std.proofs.Common.{ℕ, List, ◌∙◌, sym, ap, length}
use Rattle.std.proofs.lemmas.List.{map-id}
use Rattle.wide_forms.specs.EncodingForm.{Utf16}
use Rattle.wide_forms.specs.Items.{chars}
use Rattle.wide_unit.proofs.unit.U16Unit.char_count.Goals as goal

pub returns : goal.returns
returns c = c.char_count.ensures ∙ ap (λ (vs : List ℕ). length (chars Utf16 vs)) (sym (map-id c.args.units.now))
