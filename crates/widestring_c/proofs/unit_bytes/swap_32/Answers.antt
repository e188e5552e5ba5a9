use Rattle.std.proofs.Common.{◌<◌, arith, get_or, length}
use Rattle.std.proofs.lemmas.List.{get_or_default}
use Rattle.std.proofs.lemmas.List.Edits.{map_over_more}
use Rattle.widestring_c.specs.UnitBytes.{swapped_32}
use Rattle.widestring_c.proofs.unit_bytes.swap_32.Goals as goal

pub loop-k-preserved : goal.loop-k-preserved
loop-k-preserved c =
    let old = c.args.units.now in
    let units = c.loop-k.units in
    let k = c.loop-k.k in
    let u = get_or units k 0 in
    let within : k < length units = omega (arith, c.loop-k-test.true, c.loop-k.auto.units) in
    map_over_more swapped_32 old units k u (omega (arith, within, c.loop-k.auto.units)) c.loop-k.invariant (get_or_default units k 0 u within)
