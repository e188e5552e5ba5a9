use Rattle.std.proofs.Common.{◌≡◌, ◌-◌, length, arith, subst}
use Rattle.wide_search.specs.Occurrences.{OccursAt}
use Rattle.wide_search.proofs.Sides.{occurs-back, none-from_stop}
use Rattle.wide_search.proofs.two_way.rfind_two_way.Goals as goal

pub returns-clause-here : goal.returns-clause-here
returns-clause-here g c = λ found.
    let needle = c.args.needle.now in
    let units = c.args.units.now in
    let at = c.next_occurrence-stop.result.at in
    let occurs = c.next_occurrence-stop.ensures.stop.here found in
    let before : length units - length needle - at ≡ c.saturating_sub.result - 1 = omega (arith, c.saturating_sub.ensures, c.requires.some, occurs.fits) in (
      subst (OccursAt needle units) before (occurs-back g.C.Unit.number g.met.C.Unit.same needle units at occurs),
      omega (arith, c.saturating_sub.ensures, c.requires.some, occurs.fits),
    )

pub returns-clause-beyond : goal.returns-clause-beyond
returns-clause-beyond g c = λ k le.
    let from = length c.args.units.now - (length c.args.needle.now - 1) - c.args.end in
    none-from_stop g.C.Unit.number g.met.C.Unit.same c.args.needle.now c.args.units.now c.args.end from c.next_occurrence-stop.result.at (omega (arith, c.requires.some, c.requires.within)) c.requires.beyond
    c.next_occurrence-stop.ensures.stop.before k (omega (arith, le, c.saturating_sub.ensures, c.requires.some, c.requires.within))
