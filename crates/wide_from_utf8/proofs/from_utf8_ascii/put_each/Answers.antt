use Rattle.std.proofs.Common.{◌∙◌, arith}
use Rattle.wide_unit.proofs.StoredUnits.{stored-more, unit-number}
use Rattle.wide_from_utf8.proofs.from_utf8_ascii.put_each.Goals as goal

pub loop-k-preserved : goal.loop-k-preserved
loop-k-preserved g c =
    let bs = c.args.bytes.now in
    let k = c.loop-k.k in
    let byte = c.from.ensures in
    let is = unit-number g.C.Unit.number g.C.Unit.form c.from.result c.encode_char-unit.result.0 c.encode_char-unit.result.1 c.encode_char-unit.ensures (omega (arith, byte, (c.type_inv.bytes k).fits)) ∙ byte in
    stored-more g.C.Unit.number c.loop-k.units c.args.units.now bs c.args.at k c.encode_char-unit.result.0 (omega (arith, c.loop-k-test.true, c.requires, c.loop-k.auto.units)) (omega (arith, c.loop-k-test.true)) is c.loop-k.invariant
