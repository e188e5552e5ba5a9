use Rattle.std.proofs.Common.{take, ap, ◌∙◌, arith}
use Rattle.wide_search.proofs.Probing.{stands}
use Rattle.wide_search.proofs.search_back.skip_back.Goals as goal

pub returns-clause-beyond : goal.returns-clause-beyond
returns-clause-beyond g c = λ needle is k le l occurs.
    let back = c.split_at-2.ensures.front ∙ ap (take c.args.end) c.split_at.ensures.back in
    c.last_pair.ensures.beyond k le (omega (arith, l, c.split_at-2.ensures.front_len)) (stands g.C.Unit.number needle c.args.units.now c.args.probe k c.args.end is occurs l c.split_at-3.result.0.now c.split_at-2.result.0.now c.split_at-3.ensures.front back)
