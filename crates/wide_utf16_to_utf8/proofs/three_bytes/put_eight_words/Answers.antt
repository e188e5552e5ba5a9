use Rattle.std.proofs.Common.{◌≡◌, subst, sym, take, arith}
use Rattle.std.proofs.lemmas.List.{take_all}
use Rattle.wide_utf16_to_utf8.specs.Encoded.{EncodedUnits}
use Rattle.wide_utf16_to_utf8.proofs.Rows.{packed-of-units}
use Rattle.wide_utf16_to_utf8.proofs.three_bytes.put_eight_words.Goals as goal

pub returns-clause-text : goal.returns-clause-text
returns-clause-text c =
    let us = c.args.units.now in
    let whole : take 8 us ≡ us = take_all 8 us (omega (arith, c.requires.whole)) in
    let text = packed-of-units (take 8 us) us c.lead_lanes.result c.last_lanes.result (take c.args.at c.args.out.now) whole (omega arith) (omega arith) (omega arith) c.lead_lanes.ensures c.last_lanes.ensures (λ k. (c.type_inv.units k).fits) c.requires.plain in
    subst (λ t. EncodedUnits us (take c.args.at c.args.out.now) t) (sym c.put_packed.ensures.text) text
