use Rattle.std.proofs.Common.{◌≡◌, false, true, refl, arith, length, map}
use Rattle.std.specs.Str.TwoWay.{item_from}
use Rattle.wide_search.specs.Factorizations.{Precedes}
use Rattle.wide_search.specs.NextOccurrences.{number_read}
use Rattle.wide_search.proofs.Orders.{Precedes-irreflexive, Precedes-trans, Precedes-total}
use Rattle.wide_search.proofs.Suffixes.{matched-more, next-period, lesser-more, other-starts, greatest-suffix}
use Rattle.wide_search.proofs.factorization.greatest_suffix.Goals as goal

pub loop-other-preserved-then-precedes : goal.loop-other-preserved-then-precedes
loop-other-preserved-then-precedes g c =
    let x = item_from g.S.Side.BACK (length c.args.needle.now) (map (number_read g.S.Side.READ g.C.Unit.number) c.args.needle.now) in
    let l = c.loop-other in
    let i = l.invariant in
    record {
      candidate =
          lesser-more (Precedes c.args.reversed) x (length c.args.needle.now) l.start l.other l.matched l.period i.candidate c.loop-other-test.true
          c.unit-ours.result c.unit-theirs.result c.unit-ours.ensures c.unit-theirs.ensures (Precedes-trans c.args.reversed) (c.if-precedes.ensures.0 refl);
      grows = omega (arith, i.grows, c.tick.ensures);
      steps = omega (arith, i.steps, c.tick.ensures);
    }

pub loop-other-preserved-then-theirs-ours : goal.loop-other-preserved-then-theirs-ours
loop-other-preserved-then-theirs-ours g c =
    let x = item_from g.S.Side.BACK (length c.args.needle.now) (map (number_read g.S.Side.READ g.C.Unit.number) c.args.needle.now) in
    let l = c.loop-other in
    let i = l.invariant in
    record {
      candidate =
          other-starts (Precedes c.args.reversed) x (length c.args.needle.now) l.start l.other l.matched l.period i.candidate c.loop-other-test.true
          c.unit-ours.result c.unit-theirs.result c.unit-ours.ensures c.unit-theirs.ensures (Precedes-trans c.args.reversed)
          (Precedes-total c.args.reversed c.unit-theirs.result c.unit-ours.result c.if-theirs-ours.true (λ less. let no : false ≡ true = c.if-precedes.ensures.1 less in cc));
      grows = omega (arith, i.grows, c.tick.ensures);
      steps = omega (arith, i.steps, c.tick.ensures, i.candidate.low, i.candidate.based, i.candidate.inside);
    }

pub loop-other-preserved-then-matched-period : goal.loop-other-preserved-then-matched-period
loop-other-preserved-then-matched-period g c =
    let x = item_from g.S.Side.BACK (length c.args.needle.now) (map (number_read g.S.Side.READ g.C.Unit.number) c.args.needle.now) in
    let l = c.loop-other in
    let i = l.invariant in
    record {
      candidate =
          matched-more (Precedes c.args.reversed) x (length c.args.needle.now) l.start l.other l.matched l.period i.candidate c.loop-other-test.true
          c.unit-ours.result c.unit-theirs.result c.unit-ours.ensures c.unit-theirs.ensures c.if-theirs-ours.false c.if-matched-period.true;
      grows = omega (arith, i.grows, c.tick.ensures);
      steps = omega (arith, i.steps, c.tick.ensures);
    }

pub loop-other-preserved : goal.loop-other-preserved
loop-other-preserved g c =
    let x = item_from g.S.Side.BACK (length c.args.needle.now) (map (number_read g.S.Side.READ g.C.Unit.number) c.args.needle.now) in
    let l = c.loop-other in
    let i = l.invariant in
    record {
      candidate =
          next-period (Precedes c.args.reversed) x (length c.args.needle.now) l.start l.other l.matched l.period i.candidate c.loop-other-test.true
          c.unit-ours.result c.unit-theirs.result c.unit-ours.ensures c.unit-theirs.ensures c.if-theirs-ours.false c.if-matched-period.false;
      grows = omega (arith, i.grows, c.tick.ensures);
      steps = omega (arith, i.steps, c.tick.ensures, i.candidate.inside, c.if-matched-period.false);
    }

pub returns : goal.returns
returns g c =
    let x = item_from g.S.Side.BACK (length c.args.needle.now) (map (number_read g.S.Side.READ g.C.Unit.number) c.args.needle.now) in
    let l = c.loop-other in
    let i = l.invariant in
    record {
      steps = (i.grows, omega (arith, i.steps, i.candidate.fits, i.candidate.low, i.candidate.based));
      suffix =
          greatest-suffix (Precedes c.args.reversed) x (length c.args.needle.now) l.start l.other l.matched l.period i.candidate (Precedes-irreflexive c.args.reversed) c.loop-other-test.false;
    }
