use Rattle.std.proofs.Common.{◌≡◌, ℕ, ◌+◌, ◌-◌, false, arith, ap, subst, take, ◌∙◌}
use Rattle.wide_search.specs.NextOccurrences.{number_read, OccursFrom}
use Rattle.wide_search.proofs.Probing.{both-read}
use Rattle.wide_search.proofs.side.FrontSide.passed.Goals as goal

pub returns-clause-before : goal.returns-clause-before
returns-clause-before g c = λ k le l occurs.
    let number = g.C.Unit.number in
    let units = c.args.units.now in
    let needle = c.args.needle.now in
    let j = k - c.args.from in
    let further : k ≡ c.args.from + j = omega (arith, le) in
    let there : OccursFrom false (number_read (λ (n : ℕ). n) number) needle units (c.args.from + j) = subst (λ n. OccursFrom false (number_read (λ (n : ℕ). n) number) needle units n) further occurs in
    c.first_pair.ensures.before j (omega (arith, le, l))
    (both-read number needle units c.split_at-2.result.0.now c.split_at-4.result.0.now c.args.from c.args.one c.args.other c.args.count j c.index-needle-one.result c.index-needle-other.result (omega (arith, le, l, c.first_pair.ensures.within))
    (c.split_at-2.ensures.front ∙ ap (take c.args.count) c.split_at.ensures.back) (c.split_at-4.ensures.front ∙ ap (take c.args.count) c.split_at-3.ensures.back) c.requires.one c.requires.other
    c.index-needle-one.is c.index-needle-other.is (there.reads c.args.one c.requires.one) (there.reads c.args.other c.requires.other))
