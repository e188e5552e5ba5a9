use Rattle.std.proofs.Common.{◌≡◌, ◌∙◌, get_or, arith}
use Rattle.wide_unit.proofs.StoredUnits.{stored-more, unit-number}
use Rattle.wide_from_utf8.proofs.compressed_units.put_lanes.Goals as goal

pub loop-k-preserved : goal.loop-k-preserved
loop-k-preserved g c =
    let k = c.loop-k.k in
    let code = c.char_of.result in
    let unit = c.encode_char-unit.result in
    let lane : code ≡ get_or c.args.lanes k 0 = c.char_of.ensures ∙ c.from.ensures in
    let is = unit-number g.C.Unit.number g.C.Unit.form code unit.0 unit.1 c.encode_char-unit.ensures (omega (arith, lane, c.loop-k-test.element_fits.fits)) ∙ lane in
    stored-more g.C.Unit.number c.loop-k.units c.args.units.now c.args.lanes c.args.at k unit.0 (omega (arith, c.requires.space, c.loop-k.auto.units)) (omega (arith, c.fits-lanes.0, c.loop-k-test.true)) is c.loop-k.invariant
