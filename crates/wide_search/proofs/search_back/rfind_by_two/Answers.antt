use Rattle.std.proofs.Common.{◌≡◌, ◌+◌, ◌-◌, ◌*◌, ◌<◌, ◌≤◌, inl, inr, sym, ap, arith, length, subst}
use Rattle.std.proofs.lemmas.Bool.{cases_lt}
use Rattle.wide_search.specs.Occurrences.{OccursAt}
use Rattle.wide_steps.specs.Counted.{counted}
use Rattle.wide_search.proofs.Wasted.{paid-anew, paid-two_way, paid-as}
use Rattle.wide_search.proofs.search_back.rfind_by_two.Goals as goal

pub loop-at-preserved-in-Some-as_slice : goal.loop-at-preserved-in-Some-as_slice
loop-at-preserved-in-Some-as_slice g c =
    let sought = g.P.Needle.sought c.args.needle in
    let base = counted c.args.steps.now in
    let m = length sought in
    let at = c.skip_back-found.result - 1 in
    let to = c.rfind_two_way-stop.result.at in
    let last = counted c.rfind_two_way-stop.new.steps in
    let i = c.loop-at.invariant in
    let same : length c.in-Some-as_slice.sought.now ≡ m = ap length c.in-Some-as_slice.ensures.slice in
    let long = c.in-Some.ensures.length in
    let far = c.rfind_two_way-stop.ensures.far (λ found. cc (found, c.if-stop-2.false)) in
    let few : counted c.matched-matched.new.steps ≤ counted c.loop-at.steps + (c.loop-at.at - c.skip_back-found.result) + 40 + c.matched-matched.result = omega (arith, c.tick.ensures, c.tick-in-loop-at.ensures, c.matched-matched.ensures.steps) in
    let more : counted c.loop-at.steps ≤ last = omega (arith, c.tick.ensures, c.tick-in-loop-at.ensures, c.matched-matched.ensures.steps, c.rfind_two_way-stop.ensures.steps.0) in
    let less : c.matched-matched.result < m = omega (arith, c.if-matched-probe.false, long) in
    let spent : length c.args.units.now < 144115188075855872 → last ≤ base + 60 * (c.args.end - at) + 8 * (at - to) + 145 * m + 2 =
    λ short. elim (cases_lt 2 m) [
      | inl wide ↦ omega (
        arith,
        paid-two_way base m (c.args.end - c.loop-at.since) (c.args.end - c.loop-at.at) (c.loop-at.at - c.skip_back-found.result) c.matched-matched.result (c.args.end - to) c.loop-at.costs.wasted (counted c.loop-at.steps) (counted c.matched-matched.new.steps) last
            (omega (arith, i.since, i.below)) (omega (arith, c.rfind_two_way-stop.ensures.within, i.since, i.below, c.skip_back-found.ensures.within, c.if-found-eq0.false)) less few
            (omega (arith, c.rfind_two_way-stop.ensures.steps.1, same, c.rfind_two_way-stop.ensures.within, i.since, i.below, c.skip_back-found.ensures.within, c.if-found-eq0.false)) (i.paid short wide c.loop-at-test.true),
        c.rfind_two_way-stop.ensures.within,
        i.since,
        i.below,
        c.skip_back-found.ensures.within,
        c.if-found-eq0.false,
      )
      | inr narrow ↦ omega (arith, i.few narrow c.loop-at-test.true, few, less, same, c.rfind_two_way-stop.ensures.steps.1, c.skip_back-found.ensures.within, c.if-found-eq0.false, c.rfind_two_way-stop.ensures.within, i.since, i.below)
    ] in
    record {
      within = omega (arith, c.rfind_two_way-stop.ensures.within, i.within, c.skip_back-found.ensures.within);
      since = omega arith;
      below = omega (arith, c.rfind_two_way-stop.ensures.within, i.since, i.below, c.skip_back-found.ensures.within);
      beyond = λ later le occurs. c.rfind_two_way-stop.ensures.beyond later le (subst (λ xs. OccursAt xs c.args.units.now later) (sym c.in-Some-as_slice.ensures.slice) occurs);
      grows = λ short. omega (arith, i.grows short, more);
      few = λ short some. omega (arith, i.few short c.loop-at-test.true, few, less, same, c.rfind_two_way-stop.ensures.steps.1, far some, c.skip_back-found.ensures.within, c.if-found-eq0.false, c.rfind_two_way-stop.ensures.within);
      paid = λ short wide some. paid-as base m (c.args.end - to) (c.args.end - to) (c.args.end - to) (c.args.end - to) 0 c.new.result.wasted last last (omega arith) (omega arith) c.new.ensures (omega arith)
          (paid-anew base m (c.args.end - to) last (omega (arith, i.grows short, more)) (omega (arith, spent short, far some, same, c.rfind_two_way-stop.ensures.within, i.since, i.below, c.skip_back-found.ensures.within, wide)));
      most = λ short. omega (arith, spent short, c.rfind_two_way-stop.ensures.within, i.since, i.below, c.skip_back-found.ensures.within);
    }
