use Rattle.std.proofs.Common.{false, true, ap, arith, length, map}
use Rattle.std.specs.Str.TwoWay.{item_from}
use Rattle.wide_search.specs.Factorizations.{Precedes}
use Rattle.wide_search.specs.declared.factorization.Suffix.{Suffix}
use Rattle.wide_search.specs.NextOccurrences.{number_read}
use Rattle.wide_search.proofs.Orders.{Precedes-irreflexive, Precedes-trans}
use Rattle.wide_search.proofs.Cuts.{cut-there}
use Rattle.wide_search.proofs.factorization.factorize.Goals as goal
use Rattle.wide_search.proofs.factorization.factorize.Goals.{then-ascending-descending, else-ascending-descending}

pub returns-clause-parts : goal.returns-clause-parts
returns-clause-parts g c =
    let x = item_from g.S.Side.BACK (length c.args.needle.now) (map (number_read g.S.Side.READ g.C.Unit.number) c.args.needle.now) in
    let m = length c.args.needle.now in
    let one = c.greatest_suffix-ascending in
    let two = c.greatest_suffix-descending in
    let later = c.if-ascending-descending.later in
    elim c.if-ascending-descending.branch [
      | then-ascending-descending w ↦
          cut-there (Precedes true) (Precedes false) (Precedes-irreflexive true) (Precedes-trans true) (Precedes-irreflexive false) (Precedes-trans false) (λ a b less. less)
          x m two.result.start two.result.period two.ensures.suffix one.result.start one.result.period one.ensures.suffix (omega (arith, w.if-ascending-descending.true))
          (record { cut = later.start; period = later.period; repeats = c.repeats_at.result }) (ap (λ (s : Suffix). s.start) w.later-is) (ap (λ (s : Suffix). s.period) w.later-is) c.repeats_at.ensures.repeats
      | else-ascending-descending w ↦
          cut-there (Precedes false) (Precedes true) (Precedes-irreflexive false) (Precedes-trans false) (Precedes-irreflexive true) (Precedes-trans true) (λ a b less. less)
          x m one.result.start one.result.period one.ensures.suffix two.result.start two.result.period two.ensures.suffix w.if-ascending-descending.false
          (record { cut = later.start; period = later.period; repeats = c.repeats_at.result }) (ap (λ (s : Suffix). s.start) w.later-is) (ap (λ (s : Suffix). s.period) w.later-is) c.repeats_at.ensures.repeats
    ]
