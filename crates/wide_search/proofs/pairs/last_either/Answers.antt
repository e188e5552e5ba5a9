use Rattle.std.proofs.Common.{map, length, ap, refl, arith}
use Rattle.std.proofs.lemmas.List.{length-map}
use Rattle.wide_search.proofs.Ranges.{stand-as}
use Rattle.wide_search.proofs.pairs.last_either.Goals as goal

pub returns-in-Some-Some-clause-beyond : goal.returns-in-Some-Some-clause-beyond
returns-in-Some-Some-clause-beyond g c = λ k le l holds.
    let number = g.C.Unit.number in
    c.last_in.ensures.beyond k le (omega (arith, l, ap length c.in-U16-U16.ensures'.numbers, length-map c.args.back.now number))
    (stand-as c.args.first c.args.last c.in-Some-Some.first c.in-Some-Some.last (map number c.args.front.now) (map number c.args.back.now) c.in-U16-U16.front.now c.in-U16-U16.back.now k c.in-Some-Some.ensures c.in-Some-Some.ensures' c.in-U16-U16.ensures.numbers c.in-U16-U16.ensures'.numbers holds)

pub returns-in-U32-U32-clause-beyond : goal.returns-in-U32-U32-clause-beyond
returns-in-U32-U32-clause-beyond g c = λ k le l holds.
    let number = g.C.Unit.number in
    c.last_in-in-U32-U32.ensures.beyond k le (omega (arith, l, ap length c.in-U32-U32.ensures'.numbers, length-map c.args.back.now number))
    (stand-as c.args.first c.args.last c.args.first c.args.last (map number c.args.front.now) (map number c.args.back.now) c.in-U32-U32.front.now c.in-U32-U32.back.now k refl refl c.in-U32-U32.ensures.numbers c.in-U32-U32.ensures'.numbers holds)
