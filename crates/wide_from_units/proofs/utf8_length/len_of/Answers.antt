use Rattle.std.proofs.Common.{◌≡◌, ◌+◌, ◌-◌, take, drop, arith}
use Rattle.std.specs.List.{sum_by}
use Rattle.wide_unit.proofs.Lengths.{counted-on, counted-all}
use Rattle.wide_from_units.proofs.utf8_length.len_of.Goals as goal

pub counted-preserved : goal.counted-preserved
counted-preserved g c =
    let us = c.args.units.now in
    let at = c.counted.at in
    let block : at + 4096 - at ≡ 4096 = omega arith in
    let more : c.more_bytes.result ≡ sum_by g.C.Weighed.more (take 4096 (drop at us)) = rw block at c.more_bytes.ensures in
    (omega arith, omega (arith, more, c.counted.invariant, c.saturating_add-len.ensures, counted-on g.C.Weighed.more us at 4096))

pub returns : goal.returns
returns g c = omega (arith, c.more_bytes-2.ensures, c.counted.invariant, c.saturating_add.ensures, counted-all g.C.Weighed.more c.args.units.now c.counted.at c.counted.invariant.0)
