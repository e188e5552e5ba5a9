use Rattle.std.proofs.Common.{length, sym, ap, ◌∙◌}
use Rattle.std.proofs.lemmas.List.{length-map}
use Rattle.wide_forms.specs.EncodingForm.{Utf16}
use Rattle.wide_forms.specs.Items.{chars}
use Rattle.wide_forms.specs.Segmentation.{Char}
use Rattle.wide_forms.specs.Laws.Items.{chars-of_well_formed}
use Rattle.wide_convert.proofs.counts.item_count.Goals as goal

pub returns-then-not-may_be_ill_formed : goal.returns-then-not-may_be_ill_formed
returns-then-not-may_be_ill_formed c =
    let us = c.args.units.now in
    c.char_count.ensures ∙ sym (ap length (chars-of_well_formed Utf16 us (c.requires c.if-not-may_be_ill_formed.true)) ∙ length-map (chars Utf16 us) (λ x. Char x))
