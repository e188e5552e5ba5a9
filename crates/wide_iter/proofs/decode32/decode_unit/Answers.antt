use Rattle.std.proofs.Common.{[], ◌∷◌, sym, ap, ◌∙◌}
use Rattle.wide_forms.specs.EncodingForm.{Utf32}
use Rattle.wide_forms.specs.Segmentation.{Fault}
use Rattle.wide_forms.specs.Items.{items}
use Rattle.wide_forms.specs.Laws.Items.{items-code_units, items-fault}
use Rattle.wide_iter.proofs.decode32.decode_unit.Goals as goal

pub returns-in-Some : goal.returns-in-Some
returns-in-Some c = ap (λ us. items Utf32 us) (sym c.in-Some.ensures.1) ∙ items-code_units Utf32 c.in-Some.c c.in-Some.ensures.0

pub returns-in-None : goal.returns-in-None
returns-in-None c = items-fault Utf32 c.args.unit c.in-None.ensures ∙ ap (λ u. Fault u ∷ []) (sym c.new.ensures)
