use Rattle.std.proofs.Common.{◌≡◌, ◌+◌, ◌-◌, take, drop, arith}
use Rattle.std.specs.List.{sum_by}
use Rattle.wide_unit.proofs.Lengths.{counted-on, counted-all}
use Rattle.wide_unit.proofs.utf8.count_all.Goals as goal

pub counted-preserved : goal.counted-preserved
counted-preserved g c =
    let at = c.counted.at in
    let block : at + 64 - at ≡ 64 = omega arith in
    let more : c.count.result ≡ sum_by g.T.Count.begun (take 64 (drop at c.args.bytes.now)) = rw block at c.count.ensures.value in
    record {
      within = omega arith;
      so_far = omega (arith, more, c.counted.invariant.so_far, c.from-count.ensures, counted-on g.T.Count.begun c.args.bytes.now at 64);
      bound = omega (arith, c.counted.invariant.bound, c.count.ensures.bound, c.from-count.ensures);
    }

pub returns : goal.returns
returns g c = omega (arith, c.count-2.ensures.value, c.counted.invariant.so_far, counted-all g.T.Count.begun c.args.bytes.now c.counted.at c.counted.invariant.within)
