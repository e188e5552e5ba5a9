use Rattle.std.proofs.Common.{map, subst, sym}
use Rattle.wide_search.specs.Occurrences.{OccursAt}
use Rattle.wide_search.specs.Laws.Numbers.{occurs-numbers}
use Rattle.wide_search.proofs.blocks.may_begin_with.Goals as goal

pub returns-in-U16-U16 : goal.returns-in-U16-U16
returns-in-U16-U16 g c = λ occurs.
    let number = g.C.Unit.number in
    c.may_begin.ensures
    (subst (λ us. OccursAt c.in-U16-U16.needle.now us 0) (sym c.in-U16-U16.ensures'.numbers)
    (subst (λ ns. OccursAt ns (map number c.args.units.now) 0) (sym c.in-U16-U16.ensures.numbers) (occurs-numbers number c.args.needle.now c.args.units.now 0 occurs)))

pub returns-in-U32-U32 : goal.returns-in-U32-U32
returns-in-U32-U32 g c = λ occurs.
    let number = g.C.Unit.number in
    c.may_begin-in-U32-U32.ensures
    (subst (λ us. OccursAt c.in-U32-U32.needle.now us 0) (sym c.in-U32-U32.ensures'.numbers)
    (subst (λ ns. OccursAt ns (map number c.args.units.now) 0) (sym c.in-U32-U32.ensures.numbers) (occurs-numbers number c.args.needle.now c.args.units.now 0 occurs)))
