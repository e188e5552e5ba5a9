use Rattle.std.proofs.Common.{◌-◌, length, arith}
use Rattle.wide_search.proofs.Lowercase.{ends-match}
use Rattle.wide_search.proofs.ignoring_case.skip.Goals as goal

pub returns-clause-before : goal.returns-clause-before
returns-clause-before g c = λ k l occurs.
    let distance = length c.args.needle.now - 1 in
    c.first_pair_in_lower_case.ensures.before k l
    (ends-match g.C.Unit.number c.args.needle.now c.args.units.now c.split_at.result.1.now c.split_at-3.result.0.now c.split_at-2.result.0.now c.index-needle-0.result c.index-needle-distance.result distance c.args.count k (omega (arith, c.requires.some))
    c.index-needle-0.is c.index-needle-distance.is c.split_at-3.ensures.front c.split_at.ensures.back c.split_at-2.ensures.front (omega (arith, l, c.first_pair_in_lower_case.ensures.within, c.split_at-2.ensures.front_len)) occurs)
