use Rattle.std.proofs.Common.{◌-◌, arith, length, map}
use Rattle.wide_search.specs.Probes.{EitherMatchesAt}
use Rattle.wide_search.proofs.Ranges.{none-further, none-more, apart}
use Rattle.wide_search.proofs.pairs.first_in.Goals as goal

pub returns-then-step-COUNT-clause-before : goal.returns-then-step-COUNT-clause-before
returns-then-step-COUNT-clause-before g c =
    none-further (EitherMatchesAt g.L.Lane.number c.args.first c.args.last (map g.L.Lane.number c.args.front.now) (map g.L.Lane.number c.args.back.now)) c.loop-at.at c.before_pair-step.result c.loop-at.invariant.1 c.before_pair-step.ensures.before

pub loop-at-preserved : goal.loop-at-preserved
loop-at-preserved g c = (
  omega (arith, c.loop-at-test.true, c.before_pair-step.ensures.within, c.COUNT.ensures, c.loop-at.invariant.0),
  none-further (EitherMatchesAt g.L.Lane.number c.args.first c.args.last (map g.L.Lane.number c.args.front.now) (map g.L.Lane.number c.args.back.now)) c.loop-at.at c.before_pair-step.result c.loop-at.invariant.1 c.before_pair-step.ensures.before,
)

pub returns-then-len-COUNT-clause-before : goal.returns-then-len-COUNT-clause-before
returns-then-len-COUNT-clause-before g c =
    none-further (EitherMatchesAt g.L.Lane.number c.args.first c.args.last (map g.L.Lane.number c.args.front.now) (map g.L.Lane.number c.args.back.now))
    (length c.args.back.now - c.COUNT-then-len-COUNT.result) c.before_pair.result
    (λ k l. c.loop-at.invariant.1 k (omega (arith, l, c.loop-at-test.false, c.COUNT.ensures, c.COUNT-then-len-COUNT.ensures))) c.before_pair.ensures.before

pub loop-at-2-preserved : goal.loop-at-2-preserved
loop-at-2-preserved g c =
    let here = apart g.L.Lane.number c.args.front.now c.args.back.now c.args.first c.args.last c.loop-at-2.at c.index-front-at.result c.index-back-at.result c.are_either.result (omega arith) (omega arith)
    c.index-front-at.is c.index-back-at.is c.are_either.ensures c.if-not-are_either.true in (
      omega (arith, c.loop-at-2-test.true),
      none-more (EitherMatchesAt g.L.Lane.number c.args.first c.args.last (map g.L.Lane.number c.args.front.now) (map g.L.Lane.number c.args.back.now)) c.loop-at-2.at c.loop-at-2.invariant.1 here,
    )
