use Rattle.std.proofs.Common.{◌≡◌, ◌+◌, ◌-◌, ◌<◌, ◌≤◌, false, inl, inr, refl, sym, ap, subst, arith, length, drop}
use Rattle.std.proofs.lemmas.Bool.{cases_lt}
use Rattle.wide_search.specs.Occurrences.{OccursAt}
use Rattle.wide_search.specs.Probes.{IsProbe}
use Rattle.wide_search.proofs.Offsets.{none-skipped, occurs-there, none-tried, none-as}
use Rattle.wide_steps.specs.Counted.{counted}
use Rattle.wide_search.specs.Costs.{is_two_way}
use Rattle.wide_search.proofs.Wasted.{IsPaid, paid-try, paid-as}
use Rattle.wide_search.proofs.search.find_by_two.Goals as goal

pub returns-then-step-count-clause-before : goal.returns-then-step-count-clause-before
returns-then-step-count-clause-before g c = λ offset l.
    let sought = g.P.Needle.sought c.args.needle in
    none-skipped g.C.Unit.number sought c.args.units.now c.split_at.result.1.now (drop c.skip-step.result c.split_at.result.1.now) c.loop-at.at c.skip-step.result c.split_at.ensures.back refl
    c.loop-at.invariant.before (c.skip-step.ensures.before sought c.in-Some.ensures)
    offset (omega (arith, l, c.if-step-count.true, c.unfound.ensures.at, c.loop-at-test.true))

pub returns-then-matched-probe-clause-here : goal.returns-then-matched-probe-clause-here
returns-then-matched-probe-clause-here g c = λ _.
    let sought = g.P.Needle.sought c.args.needle in
    let is : IsProbe sought c.in-Some.probe = c.in-Some.ensures in
    let whole = c.matched-matched.ensures.whole.1 (omega (arith, c.matched-matched.ensures.within, c.if-matched-probe.true, is.length)) in
    subst (OccursAt sought c.args.units.now) (sym c.found-then-matched-probe.ensures.at)
    (occurs-there g.C.Unit.number sought c.args.units.now c.split_at.result.1.now c.split_at-in-loop-at.result.1.now c.loop-at.at c.skip-step.result c.split_at.ensures.back c.split_at-in-loop-at.ensures.back
    c.loop-at.invariant.before (c.skip-step.ensures.before sought is) (omega (arith, c.skip-step.ensures.within, c.loop-at-test.true)) whole)

pub returns-then-matched-probe-clause-before : goal.returns-then-matched-probe-clause-before
returns-then-matched-probe-clause-before g c = λ k l.
    let sought = g.P.Needle.sought c.args.needle in
    none-skipped g.C.Unit.number sought c.args.units.now c.split_at.result.1.now c.split_at-in-loop-at.result.1.now c.loop-at.at c.skip-step.result c.split_at.ensures.back c.split_at-in-loop-at.ensures.back
    c.loop-at.invariant.before (c.skip-step.ensures.before sought c.in-Some.ensures)
    k (omega (arith, l, c.found-then-matched-probe.ensures.at))

pub find_two_way-requires-clause-before : goal.find_two_way-requires-clause-before
find_two_way-requires-clause-before g c =
    let sought = g.P.Needle.sought c.args.needle in
    let is : IsProbe sought c.in-Some.probe = c.in-Some.ensures in
    none-as sought c.in-Some-as_slice.sought.now c.args.units.now (c.loop-at.at + (c.skip-step.result + 1)) c.in-Some-as_slice.ensures.slice
    (none-tried g.C.Unit.number sought c.args.units.now c.split_at.result.1.now c.split_at-in-loop-at.result.1.now c.loop-at.at c.skip-step.result c.split_at.ensures.back c.split_at-in-loop-at.ensures.back
    c.loop-at.invariant.before (c.skip-step.ensures.before sought is)
    (λ whole. omega (arith, c.matched-matched.ensures.whole.0 whole, c.if-matched-probe.false, is.length)))

pub find_each-matched-requires-clause-before : goal.find_each-matched-requires-clause-before
find_each-matched-requires-clause-before g c =
    let sought = g.P.Needle.sought c.args.needle in
    let is : IsProbe sought c.in-Some.probe = c.in-Some.ensures in
    none-tried g.C.Unit.number sought c.args.units.now c.split_at.result.1.now c.split_at-in-loop-at.result.1.now c.loop-at.at c.skip-step.result c.split_at.ensures.back c.split_at-in-loop-at.ensures.back
    c.loop-at.invariant.before (c.skip-step.ensures.before sought is)
    (λ whole. omega (arith, c.matched-matched.ensures.whole.0 whole, c.if-matched-probe.false, is.length))

pub returns-in-Plain-clause-before : goal.returns-in-Plain-clause-before
returns-in-Plain-clause-before g c = λ k l.
    let sought = g.P.Needle.sought c.args.needle in
    let is : IsProbe sought c.in-Some.probe = c.in-Some.ensures in
    none-tried g.C.Unit.number sought c.args.units.now c.split_at.result.1.now c.split_at-in-loop-at.result.1.now c.loop-at.at c.skip-step.result c.split_at.ensures.back c.split_at-in-loop-at.ensures.back
    c.loop-at.invariant.before (c.skip-step.ensures.before sought is)
    (λ whole. omega (arith, c.matched-matched.ensures.whole.0 whole, c.if-matched-probe.false, is.length))
    k (omega (arith, l, c.unfound-in-Plain.ensures.at))

pub loop-at-preserved-in-Pairs : goal.loop-at-preserved-in-Pairs
loop-at-preserved-in-Pairs g c =
    let sought = g.P.Needle.sought c.args.needle in
    let is : IsProbe sought c.in-Some.probe = c.in-Some.ensures in
    let base = counted c.args.steps.now in
    let m = length sought in
    let at = c.loop-at.at - c.args.from in
    let i = c.loop-at.invariant in
    let few : counted c.matched-matched.new.steps ≤ counted c.loop-at.steps + c.skip-step.result + 40 + c.matched-matched.result = omega (arith, c.tick.ensures, c.tick-in-loop-at.ensures, c.matched-matched.ensures.steps) in
    let less : c.matched-matched.result < m = omega (arith, c.if-matched-probe.false, is.length) in
    let paid : is_two_way c.turn.result ≡ false → length c.args.units.now < 144115188075855872 → m ≤ length c.args.units.now → 512 < m → IsPaid base m 0 (at + (c.skip-step.result + 1)) c.after_try-costs.result.wasted (counted c.matched-matched.new.steps) =
    λ other short fits wide. paid-try base m 0 at c.skip-step.result c.matched-matched.result c.loop-at.costs.wasted c.after_try-costs.result.wasted (counted c.loop-at.steps) (counted c.matched-matched.new.steps)
    (omega arith) (omega (arith, short, fits)) (omega (arith, short, c.skip-step.ensures.within, c.if-step-count.false, c.split_at.ensures.back_len)) less (omega (arith, c.tick.ensures, c.tick-in-loop-at.ensures, c.matched-matched.ensures.steps)) few
    c.after_try-costs.ensures.counts c.after_try-costs.ensures.grows (omega (arith, c.turn.ensures.wasted other, is.length, i.after)) (i.wide short fits wide) in
    record {
      after = omega (arith, c.loop-at.invariant.after);
      within = omega (arith, c.skip-step.ensures.within, c.if-step-count.false, c.split_at.ensures.back_len);
      before = none-tried g.C.Unit.number sought c.args.units.now c.split_at.result.1.now c.split_at-in-loop-at.result.1.now c.loop-at.at c.skip-step.result c.split_at.ensures.back c.split_at-in-loop-at.ensures.back
          c.loop-at.invariant.before (c.skip-step.ensures.before sought is) (λ whole. omega (arith, c.matched-matched.ensures.whole.0 whole, c.if-matched-probe.false, is.length));
      grows = omega (arith, i.grows, c.tick.ensures, c.tick-in-loop-at.ensures, c.matched-matched.ensures.steps);
      narrow = λ narrow. omega (arith, i.narrow narrow, few, less, narrow, i.after);
      wide = λ short fits wide. paid-as base m 0 0 (at + (c.skip-step.result + 1)) (c.loop-at.at + (c.skip-step.result + 1) - c.args.from) c.after_try-costs.result.wasted c.after_try-costs.result.wasted (counted c.matched-matched.new.steps) (counted c.matched-matched.new.steps)
          (omega arith) (omega (arith, i.after)) (omega arith) (omega arith) (paid (ap is_two_way c.in-Pairs.is) short fits wide);
    }

pub loop-at-preserved : goal.loop-at-preserved
loop-at-preserved g c =
    let sought = g.P.Needle.sought c.args.needle in
    let is : IsProbe sought c.in-Some.probe = c.in-Some.ensures in
    let base = counted c.args.steps.now in
    let m = length sought in
    let at = c.loop-at.at - c.args.from in
    let i = c.loop-at.invariant in
    let few : counted c.matched-matched.new.steps ≤ counted c.loop-at.steps + c.skip-step.result + 40 + c.matched-matched.result = omega (arith, c.tick.ensures, c.tick-in-loop-at.ensures, c.matched-matched.ensures.steps) in
    let less : c.matched-matched.result < m = omega (arith, c.if-matched-probe.false, is.length) in
    let paid : is_two_way c.turn.result ≡ false → length c.args.units.now < 144115188075855872 → m ≤ length c.args.units.now → 512 < m → IsPaid base m 0 (at + (c.skip-step.result + 1)) c.after_try-costs.result.wasted (counted c.matched-matched.new.steps) =
    λ other short fits wide. paid-try base m 0 at c.skip-step.result c.matched-matched.result c.loop-at.costs.wasted c.after_try-costs.result.wasted (counted c.loop-at.steps) (counted c.matched-matched.new.steps)
    (omega arith) (omega (arith, short, fits)) (omega (arith, short, c.skip-step.ensures.within, c.if-step-count.false, c.split_at.ensures.back_len)) less (omega (arith, c.tick.ensures, c.tick-in-loop-at.ensures, c.matched-matched.ensures.steps)) few
    c.after_try-costs.ensures.counts c.after_try-costs.ensures.grows (omega (arith, c.turn.ensures.wasted other, is.length, i.after)) (i.wide short fits wide) in
    record {
      after = omega (arith, c.loop-at.invariant.after);
      within = omega (arith, c.skip-step.ensures.within, c.if-step-count.false, c.split_at.ensures.back_len);
      before = none-tried g.C.Unit.number sought c.args.units.now c.split_at.result.1.now c.split_at-in-loop-at.result.1.now c.loop-at.at c.skip-step.result c.split_at.ensures.back c.split_at-in-loop-at.ensures.back
          c.loop-at.invariant.before (c.skip-step.ensures.before sought is) (λ whole. omega (arith, c.matched-matched.ensures.whole.0 whole, c.if-matched-probe.false, is.length));
      grows = omega (arith, i.grows, c.tick.ensures, c.tick-in-loop-at.ensures, c.matched-matched.ensures.steps);
      narrow = λ narrow. omega (arith, i.narrow narrow, few, less, narrow, i.after);
      wide = λ short fits wide. absurd (omega (arith, c.in_default-as_slice.ensures.few, wide));
    }

pub returns-then-step-count-clause-far : goal.returns-then-step-count-clause-far
returns-then-step-count-clause-far g c = λ _ wide fits.
    let is = c.in-Some.ensures in
    elim (cases_lt c.end_by_two-end.result (length c.args.units.now - c.in-Some.probe.distance)) [
      | inl early ↦ omega (arith, wide, fits, is.length, c.end_by_two-end.ensures.far early, c.min-count.ensures, c.max-window.ensures, c.if-step-count.true, c.unfound.ensures.at, c.loop-at.invariant.after, c.loop-at-test.true)
      | inr late ↦ omega (arith, wide, fits, is.length, late, c.min-count.ensures, c.max-window.ensures, c.if-step-count.true, c.unfound.ensures.at, c.loop-at.invariant.after, c.loop-at-test.true)
    ]

pub returns-clause-far : goal.returns-clause-far
returns-clause-far g c = λ _ wide fits.
    let is = c.in-Some.ensures in
    elim (cases_lt c.end_by_two-end.result (length c.args.units.now - c.in-Some.probe.distance)) [
      | inl early ↦ omega (arith, wide, fits, is.length, c.end_by_two-end.ensures.far early, c.loop-at-test.false, c.loop-at.invariant.after)
      | inr late ↦ omega (arith, wide, fits, is.length, late, c.loop-at-test.false, c.loop-at.invariant.after)
    ]
