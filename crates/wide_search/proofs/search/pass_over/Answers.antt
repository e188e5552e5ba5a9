use Rattle.std.proofs.Common.{◌≡◌, ◌+◌, ◌-◌, arith, subst, sym}
use Rattle.wide_search.specs.Occurrences.{OccursAt}
use Rattle.wide_search.specs.Laws.Occurrences.{occurs-left}
use Rattle.wide_search.proofs.search.pass_over.Goals as goal

pub returns-clause-before : goal.returns-clause-before
returns-clause-before g c = λ k le l occurs.
    let sought = g.P.Needle.sought c.args.needle in
    let units = c.args.units.now in
    let at = c.args.at in
    let further : k ≡ at + (k - at) = omega (arith, le) in
    c.passed_over-passed.ensures.before (k - at) (omega (arith, le, l))
    (subst (λ us. OccursAt sought us (k - at)) (sym c.split_at.ensures.back) (occurs-left sought units at (k - at) (subst (λ n. OccursAt sought units n) further occurs)))
