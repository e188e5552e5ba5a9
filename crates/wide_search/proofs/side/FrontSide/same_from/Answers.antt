use Rattle.std.proofs.Common.{◌-◌, arith, ap, take, ◌∙◌}
use Rattle.wide_search.proofs.Probing.{same-read}
use Rattle.wide_search.proofs.side.FrontSide.same_from.Goals as goal

pub returns-clause-same : goal.returns-clause-same
returns-clause-same g c = λ k le l.
    let count = c.args.end - c.args.from in
    same-read g.C.Unit.number c.args.needle.now c.args.units.now c.split_at-4.result.0.now c.split_at-2.result.0.now c.args.at c.args.from count c.common_prefix.result k le l
    (omega (arith, c.common_prefix.ensures.left_within, c.split_at-4.ensures.front_len)) (c.split_at-4.ensures.front ∙ ap (take count) c.split_at-3.ensures.back) (c.split_at-2.ensures.front ∙ ap (take count) c.split_at.ensures.back) c.common_prefix.ensures.same
