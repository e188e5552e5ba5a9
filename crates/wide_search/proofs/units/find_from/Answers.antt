use Rattle.std.proofs.Common.{arith, subst}
use Rattle.wide_search.specs.Occurrences.{IsFirstAt, OccursNowhere}
use Rattle.wide_search.specs.Laws.Occurrences.{first-from, nowhere-from}
use Rattle.wide_search.proofs.units.find_from.Goals as goal

pub returns-in_default-clause-none : goal.returns-in_default-clause-none
returns-in_default-clause-none g c =
    let needle = c.args.needle.now in
    nowhere-from needle c.args.units.now c.args.from (subst (OccursNowhere needle) c.split_at.ensures.back c.in_default.ensures.none)

pub returns-clause-first : goal.returns-clause-first
returns-clause-first g c =
    let needle = c.args.needle.now in
    first-from needle c.args.units.now c.args.from c.in-Some.at (omega (arith, c.if-units-from.false)) (subst (λ us. IsFirstAt needle us c.in-Some.at) c.split_at.ensures.back c.in-Some.ensures.first)
