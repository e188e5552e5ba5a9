use Rattle.std.proofs.Common.{sym, ◌∙◌, ap, length, map}
use Rattle.std.proofs.lemmas.List.{length-map}
use Rattle.wide_utfstr.specs.View.{units_seen}
use Rattle.wide_forms.specs.Laws.Utf32.{chars32-well_formed}
use Rattle.wide_utfstring.proofs.iter.DrainUtfU32ExactSizeIterator.len.Goals as goal

pub returns-clause-value : goal.returns-clause-value
returns-clause-value g c =
    let view = c.as_utfstr.result in
    c.len.ensures ∙ sym (ap length (chars32-well_formed (map (λ u. u) (units_seen view)) view.well_formed) ∙ length-map (units_seen view) (λ u. u)) ∙ ap length c.as_utfstr.ensures.characters
