use Rattle.std.proofs.Common.{◌≡◌, ◌+◌, ◌-◌, ◌*◌, ◌<◌, ◌≤◌, IsTrue, false, inl, inr, refl, ap, arith, length, map, drop}
use Rattle.std.proofs.lemmas.Bool.{cases_lt}
use Rattle.wide_search.specs.Lowercased.{lowercased}
use Rattle.wide_search.proofs.Lowercase.{length-lowercased, lowercased-drop}
use Rattle.wide_search.proofs.Offsets.{none-skipped, occurs-there, none-tried}
use Rattle.wide_search.proofs.Prefixes.{occurs-if_shared}
use Rattle.wide_steps.specs.Counted.{counted}
use Rattle.wide_search.specs.Costs.{is_two_way}
use Rattle.wide_search.specs.declared.two_way.Stop.{Stop}
use Rattle.wide_search.specs.declared.costs.Costs.{Costs}
use Rattle.wide_search.proofs.Wasted.{IsPaid, paid-anew, paid-try, paid-each, paid-two_way, paid-as}
use Rattle.wide_search.proofs.ignoring_case.find_by_two.Goals as goal
use Rattle.wide_search.proofs.ignoring_case.find_by_two.Goals.{in-Each, in-TwoWay}

pub returns-then-step-end-clause-none : goal.returns-then-step-end-clause-none
returns-then-step-end-clause-none g c =
    let number = g.C.Unit.number in
    let needle = lowercased (map number c.args.needle.now) in
    let units = lowercased (map number c.args.units.now) in
    let rest = lowercased (map number c.split_at.result.1.now) in
    let left = lowercased-drop number c.loop-at.at c.args.units.now c.split_at.result.1.now c.split_at.ensures.back in
    λ offset occurs. elim (cases_lt offset (c.loop-at.at + c.skip-step.result)) [
      | inl earlier ↦ none-skipped (λ n. n) needle units rest (drop c.skip-step.result rest) c.loop-at.at c.skip-step.result left refl c.loop-at.invariant.before c.skip-step.ensures.before offset earlier occurs
      | inr later ↦ omega (arith, later, c.if-step-end.true, c.loop-at-test.true, occurs.within, c.requires.some, length-lowercased number c.args.needle.now, length-lowercased number c.args.units.now)
    ]

pub returns-then-matched-distance-clause-first : goal.returns-then-matched-distance-clause-first
returns-then-matched-distance-clause-first g c =
    let number = g.C.Unit.number in
    let needle = lowercased (map number c.args.needle.now) in
    let units = lowercased (map number c.args.units.now) in
    let rest = lowercased (map number c.split_at.result.1.now) in
    let left = lowercased-drop number c.loop-at.at c.args.units.now c.split_at.result.1.now c.split_at.ensures.back in
    let here = lowercased (map number c.split_at-in-loop-at.result.1.now) in
    let cut = lowercased-drop number c.skip-step.result c.split_at.result.1.now c.split_at-in-loop-at.result.1.now c.split_at-in-loop-at.ensures.back in
    let shared = occurs-if_shared needle here c.compared-matched.result c.compared-matched.ensures.shared in
    let whole = shared.1 (omega (arith, c.compared-matched.ensures.shared.left_within, c.if-matched-distance.true, c.requires.some, length-lowercased number c.args.needle.now)) in
    record {
      here = occurs-there (λ n. n) needle units rest here c.loop-at.at c.skip-step.result left cut c.loop-at.invariant.before c.skip-step.ensures.before
          (omega (arith, c.skip-step.ensures.within, c.loop-at-test.true, length-lowercased number c.args.units.now)) whole;
      before = none-skipped (λ n. n) needle units rest here c.loop-at.at c.skip-step.result left cut c.loop-at.invariant.before c.skip-step.ensures.before;
    }

pub loop-at-preserved-in-Pairs : goal.loop-at-preserved-in-Pairs
loop-at-preserved-in-Pairs g c =
    let number = g.C.Unit.number in
    let needle = lowercased (map number c.args.needle.now) in
    let units = lowercased (map number c.args.units.now) in
    let rest = lowercased (map number c.split_at.result.1.now) in
    let left = lowercased-drop number c.loop-at.at c.args.units.now c.split_at.result.1.now c.split_at.ensures.back in
    let here = lowercased (map number c.split_at-in-loop-at.result.1.now) in
    let cut = lowercased-drop number c.skip-step.result c.split_at.result.1.now c.split_at-in-loop-at.result.1.now c.split_at-in-loop-at.ensures.back in
    let shared = occurs-if_shared needle here c.compared-matched.result c.compared-matched.ensures.shared in
    let base = counted c.args.steps.now in
    let m = length c.args.needle.now in
    let n = length c.args.units.now in
    let at = c.loop-at.at + (c.skip-step.result + 1) in
    let few : counted c.compared-matched.new.steps ≤ counted c.loop-at.steps + c.skip-step.result + 40 + c.compared-matched.result = omega (arith, c.tick.ensures, c.tick-in-loop-at.ensures, c.compared-matched.ensures.steps) in
    let less : c.compared-matched.result < m = omega (arith, c.if-matched-distance.false, c.requires.some) in
    let near : at ≤ n = omega (arith, c.skip-step.ensures.within, c.if-step-end.false, c.loop-at-test.true) in
    let tried : is_two_way c.turn.result ≡ false → n < 144115188075855872 → IsPaid base m c.loop-at.since at c.after_try-costs.result.wasted (counted c.compared-matched.new.steps) =
    λ other short. paid-try base m c.loop-at.since c.loop-at.at c.skip-step.result c.compared-matched.result c.loop-at.costs.wasted c.after_try-costs.result.wasted (counted c.loop-at.steps) (counted c.compared-matched.new.steps)
    c.loop-at.invariant.after (omega (arith, short, c.requires.fits)) (omega (arith, short, near)) less (omega (arith, c.tick.ensures, c.tick-in-loop-at.ensures, c.compared-matched.ensures.steps)) few
    c.after_try-costs.ensures.counts c.after_try-costs.ensures.grows (c.turn.ensures.wasted other) (c.loop-at.invariant.paid short c.loop-at-test.true) in
    let other : is_two_way c.turn.result ≡ false = elim c.in-Pairs.is [ inl e ↦ ap is_two_way e | inr e ↦ ap is_two_way e ] in
    record {
      after = omega (arith, c.loop-at.invariant.after);
      within = omega (arith, c.skip-step.ensures.within, c.if-step-end.false, c.loop-at-test.true);
      before = none-tried (λ n. n) needle units rest here c.loop-at.at c.skip-step.result left cut c.loop-at.invariant.before c.skip-step.ensures.before (λ whole. omega (arith, shared.0 whole, c.if-matched-distance.false, c.requires.some, length-lowercased number c.args.needle.now));
      grows = λ short. (tried other short).grows;
      paid = λ short _. tried other short;
      most = λ short. omega (arith, (tried other short).most, c.loop-at.invariant.after);
    }

pub find_each-matched-requires-clause-before : goal.find_each-matched-requires-clause-before
find_each-matched-requires-clause-before g c =
    let number = g.C.Unit.number in
    let needle = lowercased (map number c.args.needle.now) in
    let units = lowercased (map number c.args.units.now) in
    let rest = lowercased (map number c.split_at.result.1.now) in
    let left = lowercased-drop number c.loop-at.at c.args.units.now c.split_at.result.1.now c.split_at.ensures.back in
    let here = lowercased (map number c.split_at-in-loop-at.result.1.now) in
    let cut = lowercased-drop number c.skip-step.result c.split_at.result.1.now c.split_at-in-loop-at.result.1.now c.split_at-in-loop-at.ensures.back in
    let shared = occurs-if_shared needle here c.compared-matched.result c.compared-matched.ensures.shared in
    none-tried (λ n. n) needle units rest here c.loop-at.at c.skip-step.result left cut c.loop-at.invariant.before c.skip-step.ensures.before (λ whole. omega (arith, shared.0 whole, c.if-matched-distance.false, c.requires.some, length-lowercased number c.args.needle.now))

pub find_two_way_in_lower_case-stop-requires-clause-before : goal.find_two_way_in_lower_case-stop-requires-clause-before
find_two_way_in_lower_case-stop-requires-clause-before g c =
    let number = g.C.Unit.number in
    let needle = lowercased (map number c.args.needle.now) in
    let units = lowercased (map number c.args.units.now) in
    let rest = lowercased (map number c.split_at.result.1.now) in
    let left = lowercased-drop number c.loop-at.at c.args.units.now c.split_at.result.1.now c.split_at.ensures.back in
    let here = lowercased (map number c.split_at-in-loop-at.result.1.now) in
    let cut = lowercased-drop number c.skip-step.result c.split_at.result.1.now c.split_at-in-loop-at.result.1.now c.split_at-in-loop-at.ensures.back in
    let shared = occurs-if_shared needle here c.compared-matched.result c.compared-matched.ensures.shared in
    none-tried (λ n. n) needle units rest here c.loop-at.at c.skip-step.result left cut c.loop-at.invariant.before c.skip-step.ensures.before (λ whole. omega (arith, shared.0 whole, c.if-matched-distance.false, c.requires.some, length-lowercased number c.args.needle.now))

pub loop-at-preserved : goal.loop-at-preserved
loop-at-preserved g c =
    let base = counted c.args.steps.now in
    let m = length c.args.needle.now in
    let n = length c.args.units.now in
    let at = c.loop-at.at + (c.skip-step.result + 1) in
    let few : counted c.compared-matched.new.steps ≤ counted c.loop-at.steps + c.skip-step.result + 40 + c.compared-matched.result = omega (arith, c.tick.ensures, c.tick-in-loop-at.ensures, c.compared-matched.ensures.steps) in
    let less : c.compared-matched.result < m = omega (arith, c.if-matched-distance.false, c.requires.some) in
    let near : at ≤ n = omega (arith, c.skip-step.ensures.within, c.if-step-end.false, c.loop-at-test.true) in
    let tried : is_two_way c.turn.result ≡ false → n < 144115188075855872 → IsPaid base m c.loop-at.since at c.after_try-costs.result.wasted (counted c.compared-matched.new.steps) =
    λ other short. paid-try base m c.loop-at.since c.loop-at.at c.skip-step.result c.compared-matched.result c.loop-at.costs.wasted c.after_try-costs.result.wasted (counted c.loop-at.steps) (counted c.compared-matched.new.steps)
    c.loop-at.invariant.after (omega (arith, short, c.requires.fits)) (omega (arith, short, near)) less (omega (arith, c.tick.ensures, c.tick-in-loop-at.ensures, c.compared-matched.ensures.steps)) few
    c.after_try-costs.ensures.counts c.after_try-costs.ensures.grows (c.turn.ensures.wasted other) (c.loop-at.invariant.paid short c.loop-at-test.true) in
    let turned = c.match-turn in
    let reached : (n < 144115188075855872 → base ≤ counted turned.steps)
    × (n < 144115188075855872 → turned.stop.at < n - (m - 1) → IsPaid base m turned.since turned.stop.at turned.costs.wasted (counted turned.steps))
    × (n < 144115188075855872 → counted turned.steps ≤ base + 60 * turned.stop.at + 146 * m + 2) =
    elim turned.branch [
      | in-Each w ↦ (let other : is_two_way c.turn.result ≡ false = ap is_two_way w.in-Each.is in
          let unfound : ¬ (IsTrue w.find_each-matched.result.0.is_found) = λ found. cc (found, ap (λ (s : Stop). s.is_found) w.stop-is, c.if-stop.false) in
          let paid : n < 144115188075855872 → IsPaid base m c.loop-at.since w.find_each-matched.result.0.at w.after_tries-costs.result.wasted (counted w.find_each-matched.new.steps) =
          λ short. let counts = w.find_each-matched.ensures.unfound unfound (omega (arith, short, c.requires.fits)) in
          paid-each base m c.loop-at.since at w.find_each-matched.result.0.at w.find_each-matched.result.1 c.after_try-costs.result.wasted w.after_tries-costs.result.wasted (counted c.compared-matched.new.steps) (counted w.find_each-matched.new.steps)
          (omega (arith, c.loop-at.invariant.after)) w.find_each-matched.ensures.after (omega (arith, short, c.requires.fits)) (omega (arith, short, near)) (w.find_each-matched.ensures.matched (omega (arith, short, c.requires.fits)))
          counts.0 (omega (arith, counts.1)) w.after_tries-costs.ensures.counts (c.turn.ensures.wasted other) c.requires.some (tried other short) in (
            λ short. omega (arith, (paid short).grows, ap counted w.steps-is),
            λ short _. paid-as base m c.loop-at.since turned.since w.find_each-matched.result.0.at turned.stop.at w.after_tries-costs.result.wasted turned.costs.wasted (counted w.find_each-matched.new.steps) (counted turned.steps)
                w.since-is (ap (λ (s : Stop). s.at) w.stop-is) (ap (λ (k : Costs). k.wasted) w.costs-is) (ap counted w.steps-is) (paid short),
            λ short. omega (arith, (paid short).most, c.loop-at.invariant.after, w.find_each-matched.ensures.after, ap (λ (s : Stop). s.at) w.stop-is, ap counted w.steps-is),
          ))
      | in-TwoWay w ↦ (let unfound : ¬ (IsTrue w.find_two_way_in_lower_case-stop.result.is_found) = λ found. cc (found, ap (λ (s : Stop). s.is_found) w.stop-is, c.if-stop.false) in
          let to = w.find_two_way_in_lower_case-stop.result.at in
          let last = counted w.find_two_way_in_lower_case-stop.new.steps in
          let grows : n < 144115188075855872 → base ≤ last = λ short. omega (arith, c.loop-at.invariant.grows short, c.tick.ensures, c.tick-in-loop-at.ensures, c.compared-matched.ensures.steps, w.find_two_way_in_lower_case-stop.ensures.steps.0) in
          let spent : n < 144115188075855872 → last ≤ base + 60 * at + 8 * (to - at) + 145 * m + 2 = λ short.
          paid-two_way base m c.loop-at.since c.loop-at.at c.skip-step.result c.compared-matched.result to c.loop-at.costs.wasted (counted c.loop-at.steps) (counted c.compared-matched.new.steps) last
          c.loop-at.invariant.after w.find_two_way_in_lower_case-stop.ensures.after less few (omega (arith, w.find_two_way_in_lower_case-stop.ensures.steps.1)) (c.loop-at.invariant.paid short c.loop-at-test.true) in (
            λ short. omega (arith, grows short, ap counted w.steps-is),
            λ short before. paid-as base m to turned.since to turned.stop.at 0 turned.costs.wasted last (counted turned.steps)
                w.since-is (ap (λ (s : Stop). s.at) w.stop-is) (omega (arith, ap (λ (k : Costs). k.wasted) w.costs-is, w.new.ensures)) (ap counted w.steps-is)
                (paid-anew base m to last (grows short) (omega (arith, spent short, w.find_two_way_in_lower_case-stop.ensures.after, w.find_two_way_in_lower_case-stop.ensures.far unfound (omega (arith, before, c.requires.some, c.requires.fits, ap (λ (s : Stop). s.at) w.stop-is)), c.requires.some))),
            λ short. omega (arith, spent short, w.find_two_way_in_lower_case-stop.ensures.after, ap (λ (s : Stop). s.at) w.stop-is, ap counted w.steps-is),
          ))
    ] in
    record {
      after = elim turned.branch [
        | in-Each w ↦ omega (arith, w.since-is, ap (λ (s : Stop). s.at) w.stop-is, c.loop-at.invariant.after, w.find_each-matched.ensures.after)
        | in-TwoWay w ↦ omega (arith, w.since-is, ap (λ (s : Stop). s.at) w.stop-is)
      ];
      within = elim turned.branch [
        | in-Each w ↦ omega (arith, ap (λ (s : Stop). s.at) w.stop-is, w.find_each-matched.ensures.within)
        | in-TwoWay w ↦ omega (arith, ap (λ (s : Stop). s.at) w.stop-is, w.find_two_way_in_lower_case-stop.ensures.within)
      ];
      before = λ k l. elim turned.branch [
        | in-Each w ↦ w.find_each-matched.ensures.before k (omega (arith, l, ap (λ (s : Stop). s.at) w.stop-is))
        | in-TwoWay w ↦ w.find_two_way_in_lower_case-stop.ensures.before k (omega (arith, l, ap (λ (s : Stop). s.at) w.stop-is))
      ];
      grows = reached.0;
      paid = reached.1;
      most = reached.2;
    }
