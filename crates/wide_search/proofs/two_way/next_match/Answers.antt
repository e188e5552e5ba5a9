use Rattle.std.proofs.Common.{◌+◌, arith, subst}
use Rattle.wide_search.specs.NextOccurrences.{number_read, OccursFrom}
use Rattle.wide_search.proofs.Shifts.{nowhere-further}
use Rattle.wide_search.proofs.two_way.next_match.Goals as goal

pub loop-at-preserved : goal.loop-at-preserved
loop-at-preserved g c =
    let at = c.loop-at.at in
    let occurs = OccursFrom g.S.Side.BACK (number_read g.S.Side.READ g.C.Unit.number) c.args.needle.now c.args.units.now in
    record {
      after = omega arith;
      within = omega (arith, c.requires.fits, c.requires.one);
      some = omega (arith, c.if-tries-eq0.false, c.loop-at.invariant.some);
      few = omega (arith, c.loop-at.invariant.few);
      grows = omega (arith, c.loop-at.invariant.grows, c.do_both_match.ensures.steps.0);
      steps = omega (arith, c.loop-at.invariant.steps, c.loop-at.invariant.some, c.do_both_match.ensures.steps.1);
      before = nowhere-further occurs c.args.from at (at + 1) c.loop-at.invariant.before (λ k le l. subst (λ n. ¬ (occurs n)) (omega (arith, le, l)) (c.if-not-do_both_match.ensures.differ (λ t. cc t)));
    }

pub loop-at-preserved-then-tries-eq0 : goal.loop-at-preserved-then-tries-eq0
loop-at-preserved-then-tries-eq0 g c =
    let at = c.loop-at.at in
    let passed = c.passed-passed.result in
    let occurs = OccursFrom g.S.Side.BACK (number_read g.S.Side.READ g.C.Unit.number) c.args.needle.now c.args.units.now in
    record {
      after = omega arith;
      within = omega (arith, c.requires.fits, c.requires.one, c.passed-passed.ensures.within);
      some = omega arith;
      few = omega arith;
      grows = omega (arith, c.loop-at.invariant.grows, c.do_both_match.ensures.steps.0, c.tick.ensures, c.tick-then-tries-eq0.ensures);
      steps = omega (arith, c.loop-at.invariant.steps, c.loop-at.invariant.some, c.if-tries-eq0.true, c.do_both_match.ensures.steps.1, c.tick.ensures, c.tick-then-tries-eq0.ensures);
      before = nowhere-further occurs c.args.from (at + 1) (at + 1 + passed) (nowhere-further occurs c.args.from at (at + 1) c.loop-at.invariant.before (λ k le l. subst (λ n. ¬ (occurs n)) (omega (arith, le, l)) (c.if-not-do_both_match.ensures.differ (λ t. cc t))))
          c.passed-passed.ensures.before;
    }
