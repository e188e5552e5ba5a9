use Rattle.std.proofs.Common.{take, ap, ◌∙◌, arith}
use Rattle.wide_search.proofs.Probing.{stands}
use Rattle.wide_search.proofs.search.skip.Goals as goal

pub returns-clause-before : goal.returns-clause-before
returns-clause-before g c = λ needle is k l occurs.
    let back = c.split_at-2.ensures.front ∙ ap (take c.args.count) c.split_at.ensures.back in
    c.first_pair.ensures.before k l (stands g.C.Unit.number needle c.args.units.now c.args.probe k c.args.count is occurs (omega (arith, l, c.first_pair.ensures.within, c.split_at-2.ensures.front_len)) c.split_at-3.result.0.now c.split_at-2.result.0.now c.split_at-3.ensures.front back)
