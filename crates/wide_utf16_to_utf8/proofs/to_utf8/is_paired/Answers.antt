use Rattle.std.proofs.Common.{◌≡◌, ◌∙◌, ◌-◌, ap, arith, drop, length, length-drop, sym, take}
use Rattle.std.proofs.lemmas.Bool.{eqb-true}
use Rattle.std.proofs.lemmas.List.{take_all}
use Rattle.wide_utf16_to_utf8.specs.Encoded.{top_bits}
use Rattle.wide_utf16_to_utf8.proofs.Tops.{pairs-by-tops}
use Rattle.wide_utf16_to_utf8.proofs.to_utf8.is_paired.Goals as goal

pub returns-then-units-ne-LOW_TOP-clause-pairs : goal.returns-then-units-ne-LOW_TOP-clause-pairs
returns-then-units-ne-LOW_TOP-clause-pairs c reported =
    let us = c.args.units.now in
    let whole : take (length us - 1) (drop 1 us) ≡ drop 1 us = take_all (length us - 1) (drop 1 us) (omega (arith, length-drop 1 us)) in
    pairs-by-tops us c.requires (sym c.bits_of_tops-highs.ensures ∙ eqb-true _ _ reported ∙ c.bits_of_tops-lows.ensures ∙ ap (top_bits 55 16) whole)
