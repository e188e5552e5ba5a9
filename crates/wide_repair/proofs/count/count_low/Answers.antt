use Rattle.std.proofs.Common.{◌∙◌, ◌*◌, ap, drop, arith}
use Rattle.wide_forms.specs.Searches.{is_low}
use Rattle.wide_repair.proofs.Counts.{count-block, count-all}
use Rattle.wide_repair.proofs.count.count_low.Goals as goal

pub loop-block-preserved : goal.loop-block-preserved
loop-block-preserved c =
    let a = c.as_chunks in
    count-block is_low 4096 c.args.units.now a.result.0.now a.ensures.front a.ensures.front_len c.loop-block.block-index _ c.loop-block.count c.from-count.result c.loop-block-test.true c.loop-block.invariant (c.from-count.ensures ∙ c.count_low_of.ensures)

pub returns : goal.returns
returns c =
    let a = c.as_chunks in
    let all = count-all is_low 4096 c.args.units.now a.result.0.now a.ensures.front a.ensures.front_len (c.loop-block.block-index * 4096) a.result.1.now (a.ensures.back ∙ ap (λ m. drop m c.args.units.now) (omega (arith, a.ensures.front_len, c.loop-block-test.false, c.loop-block.auto.block-index-end))) in
    omega (arith, c.loop-block.invariant, c.count_low_of-2.ensures, c.from.ensures, all)
