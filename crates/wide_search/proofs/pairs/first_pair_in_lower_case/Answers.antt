use Rattle.std.proofs.Common.{map}
use Rattle.wide_search.proofs.Lowercase.{either-of_lowercase}
use Rattle.wide_search.proofs.pairs.first_pair_in_lower_case.Goals as goal

pub returns-clause-before : goal.returns-clause-before
returns-clause-before g c = λ k l holds.
    let number = g.C.Unit.number in
    c.first_either.ensures.before k l
    (either-of_lowercase c.in_either_case.result c.in_either_case-2.result (number c.args.first) (number c.args.last) (map number c.args.front.now) (map number c.args.back.now) k c.in_either_case.ensures.one c.in_either_case.ensures.other c.in_either_case-2.ensures.one c.in_either_case-2.ensures.other holds)
