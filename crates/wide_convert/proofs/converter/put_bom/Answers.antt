use Rattle.std.proofs.Common.{sym, ap, ◌∙◌}
use Rattle.wide_schemes.specs.Layouts.{encoded}
use Rattle.wide_convert.specs.Converting.{bom_bytes}
use Rattle.wide_convert.proofs.Feeding.{bom-codes, bom-well}
use Rattle.wide_convert.proofs.converter.put_bom.Goals as goal

pub put_text-requires-clause-well_formed : goal.put_text-requires-clause-well_formed
put_text-requires-clause-well_formed c needs = bom-well

pub returns-then-bom-clause-text : goal.returns-then-bom-clause-text
returns-then-bom-clause-text c = c.put_text.ensures.text ∙ ap (encoded c.args.to) bom-codes ∙ sym (ap (bom_bytes c.args.to) c.if-bom.true)
