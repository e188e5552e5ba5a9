use Rattle.std.proofs.Common.{◌∙◌, sym}
use Rattle.std.proofs.lemmas.Bool.{eqb-true}
use Rattle.wide_utf16_to_utf8.proofs.Tops.{pairs-high}
use Rattle.wide_utf16_to_utf8.proofs.to_utf8.are_pairs.Goals as goal

pub returns : goal.returns
returns c reported = pairs-high c.args.block.now c.requires (sym c.bits_of_tops.ensures ∙ eqb-true _ _ reported)
