use Rattle.std.proofs.Common.{◌-◌, ◌<◌, arith, length, map}
use Rattle.wide_search.specs.Probes.{EitherMatchesAt}
use Rattle.wide_search.proofs.Ranges.{none-back, none-less, apart}
use Rattle.wide_search.proofs.pairs.last_in.Goals as goal

pub returns-then-step-gt0-clause-beyond : goal.returns-then-step-gt0-clause-beyond
returns-then-step-gt0-clause-beyond g c =
    none-back (EitherMatchesAt g.L.Lane.number c.args.first c.args.last (map g.L.Lane.number c.args.front.now) (map g.L.Lane.number c.args.back.now)) (c.loop-end.end - c.COUNT-in-loop-end.result) c.through_pair-step.result c.loop-end.end (length c.args.back.now)
    (omega (arith, c.through_pair-step.ensures.within, c.COUNT-in-loop-end.ensures, c.loop-end-test.true, c.COUNT.ensures)) c.loop-end.invariant.1
    (λ k le l. c.through_pair-step.ensures.beyond k le (omega (arith, l, c.COUNT-in-loop-end.ensures, c.loop-end-test.true, c.COUNT.ensures)))

pub loop-end-preserved : goal.loop-end-preserved
loop-end-preserved g c = (
  omega (arith, c.loop-end.invariant.0),
  λ k le l. none-back (EitherMatchesAt g.L.Lane.number c.args.first c.args.last (map g.L.Lane.number c.args.front.now) (map g.L.Lane.number c.args.back.now)) (c.loop-end.end - c.COUNT-in-loop-end.result) 0 c.loop-end.end (length c.args.back.now) (omega arith) c.loop-end.invariant.1
      (λ j le2 l2. c.through_pair-step.ensures.beyond j (omega (arith, c.if-step-gt0.false)) (omega (arith, l2, c.COUNT-in-loop-end.ensures, c.loop-end-test.true, c.COUNT.ensures))) k (omega (arith, le)) l,
)

pub loop-end-2-preserved : goal.loop-end-2-preserved
loop-end-2-preserved g c =
    let within : c.loop-end-2.end - 1 < length c.args.back.now = omega (arith, c.loop-end-2-test.true, c.loop-end-2.invariant.0) in
    let here = apart g.L.Lane.number c.args.front.now c.args.back.now c.args.first c.args.last (c.loop-end-2.end - 1) c.index-front-end.result c.index-back-end.result c.are_either.result (omega (arith, within)) within
    c.index-front-end.is c.index-back-end.is c.are_either.ensures c.if-not-are_either.true in (
      omega (arith, within),
      none-less (EitherMatchesAt g.L.Lane.number c.args.first c.args.last (map g.L.Lane.number c.args.front.now) (map g.L.Lane.number c.args.back.now)) c.loop-end-2.end (length c.args.back.now) (omega (arith, c.loop-end-2-test.true)) c.loop-end-2.invariant.1 here,
    )
