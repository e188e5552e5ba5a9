use Rattle.std.proofs.Common.{map, refl}
use Rattle.wide_search.proofs.Ranges.{stand-as}
use Rattle.wide_search.proofs.pairs.first_either.Goals as goal

pub returns-in-Some-Some-clause-before : goal.returns-in-Some-Some-clause-before
returns-in-Some-Some-clause-before g c = λ k l holds.
    let number = g.C.Unit.number in
    c.first_in.ensures.before k l
    (stand-as c.args.first c.args.last c.in-Some-Some.first c.in-Some-Some.last (map number c.args.front.now) (map number c.args.back.now) c.in-U16-U16.front.now c.in-U16-U16.back.now k c.in-Some-Some.ensures c.in-Some-Some.ensures' c.in-U16-U16.ensures.numbers c.in-U16-U16.ensures'.numbers holds)

pub returns-in-U32-U32-clause-before : goal.returns-in-U32-U32-clause-before
returns-in-U32-U32-clause-before g c = λ k l holds.
    let number = g.C.Unit.number in
    c.first_in-in-U32-U32.ensures.before k l
    (stand-as c.args.first c.args.last c.args.first c.args.last (map number c.args.front.now) (map number c.args.back.now) c.in-U32-U32.front.now c.in-U32-U32.back.now k refl refl c.in-U32-U32.ensures.numbers c.in-U32-U32.ensures'.numbers holds)
