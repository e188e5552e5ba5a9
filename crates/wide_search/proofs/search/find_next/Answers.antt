use Rattle.std.proofs.Common.{◌≡◌, ◌∙◌, ◌+◌, ◌≤◌, true, false, refl, sym, ap, subst, arith, length, take, drop, length-drop}
use Rattle.wide_search.specs.Occurrences.{OccursAt}
use Rattle.wide_search.proofs.Offsets.{none-reported, before-reported, none-through, occurs-cut, cut-occurs, first-alike}
use Rattle.wide_search.proofs.search.find_next.Goals as goal

pub returns-in_default-clause-before : goal.returns-in_default-clause-before
returns-in_default-clause-before g c = λ k l.
    let sought = g.P.Needle.sought c.args.needle in
    let first = c.requires.first in
    none-reported g.C.Unit.number sought c.args.units.now first.0 c.split_at.result.1.now c.args.first c.code.result c.args.from first.1 c.code.ensures c.split_at.ensures.back c.requires.before
    c.in_default.ensures.none k

pub begins_after_first-requires : goal.begins_after_first-requires
begins_after_first-requires g c =
    let first = c.requires.first in
    ap (take 1) first.1 ∙ first-alike g.C.Unit.number g.met.C.Unit.same c.args.first first.0 c.split_at.result.1.now c.in-Some.step c.in-Some.ensures.within (c.in-Some.ensures.at ∙ c.code.ensures) ∙ ap (take 1) (sym c.split_at-2.ensures.back)

pub returns-then-begins_after_first-clause-here : goal.returns-then-begins_after_first-clause-here
returns-then-begins_after_first-clause-here g c = λ _.
    let sought = g.P.Needle.sought c.args.needle in
    let step = c.in-Some.step in
    let cut = c.split_at-2.ensures.back ∙ ap (drop step) c.split_at.ensures.back in
    let within : c.args.from + step ≤ length c.args.units.now = omega (arith, c.in-Some.ensures.within, c.requires.within, length-drop c.args.from c.args.units.now, ap length c.split_at.ensures.back) in
    subst (OccursAt sought c.args.units.now) (sym c.found.ensures.at)
    (occurs-cut g.C.Unit.number sought c.args.units.now c.args.from step within (subst (λ xs. OccursAt sought xs 0) cut (c.if-begins_after_first.ensures.begins.0 refl)))

pub returns-then-begins_after_first-clause-before : goal.returns-then-begins_after_first-clause-before
returns-then-begins_after_first-clause-before g c = λ k l.
    let sought = g.P.Needle.sought c.args.needle in
    let first = c.requires.first in
    before-reported g.C.Unit.number sought c.args.units.now first.0 c.split_at.result.1.now c.args.first c.code.result c.args.from first.1 c.code.ensures c.split_at.ensures.back c.requires.before c.in-Some.step
    c.in-Some.ensures.before k (omega (arith, l, c.found.ensures.at))

pub returns-clause-before : goal.returns-clause-before
returns-clause-before g c = λ k l.
    let sought = g.P.Needle.sought c.args.needle in
    let first = c.requires.first in
    let step = c.in-Some.step in
    let cut = c.split_at-2.ensures.back ∙ ap (drop step) c.split_at.ensures.back in
    let before = before-reported g.C.Unit.number sought c.args.units.now first.0 c.split_at.result.1.now c.args.first c.code.result c.args.from first.1 c.code.ensures c.split_at.ensures.back c.requires.before step
    c.in-Some.ensures.before in
    none-through g.C.Unit.number sought c.args.units.now c.args.from step before (λ occurs.
    let no : false ≡ true = c.if-begins_after_first.ensures.begins.1 (subst (λ xs. OccursAt sought xs 0) (sym cut) (cut-occurs g.C.Unit.number sought c.args.units.now c.args.from step occurs)) in
    cc) k (omega (arith, l, c.unfound-2.ensures.at))
