use Rattle.std.proofs.Common.{◌≡◌, ◌-◌, ◌+◌, ◌*◌, ◌<◌, ◌≤◌, ℕ, inl, inr, sym, subst, length, arith}
use Rattle.std.proofs.lemmas.Bool.{cases_lt}
use Rattle.std.specs.Str.Critical.{IsRepeat}
use Rattle.wide_search.specs.NextOccurrences.{number_from, number_read, OccursFrom}
use Rattle.wide_search.proofs.Shifts.{nowhere-further, known-from, none-until, none-within_period, none-within_cut, none-within_rest, known-after}
use Rattle.wide_steps.specs.Counted.{counted}
use Rattle.wide_search.proofs.Spent.{IsSpent, spent-first, spent-looking, spent-comparing}
use Rattle.wide_search.proofs.two_way.next_occurrence.Goals as goal
use Rattle.wide_search.proofs.two_way.next_occurrence.Goals.{then-at-stop+else-not-is_pair_nearby, else-at-stop}

pub loop-at-preserved-then-index-len : goal.loop-at-preserved-then-index-len
loop-at-preserved-then-index-len g c =
    let x = number_from g.S.Side.BACK (number_read g.S.Side.READ g.C.Unit.number) c.args.needle.now in
    let h = number_from g.S.Side.BACK (number_read g.S.Side.READ g.C.Unit.number) c.args.units.now in
    let m = length c.args.needle.now in
    let at = c.loop-at.at in
    let parts = c.factorize-parts.result in
    let index = c.first_difference-index.result in
    let same = known-from (λ k. h (at + k) ≡ x k) c.loop-at.known parts.cut c.max-start.result index (omega arith) c.loop-at.invariant.same c.first_difference-index.ensures.same in
    let differ = c.first_difference-index.ensures.differ c.if-index-len.true in
    let base = counted c.args.steps.now in
    let past = 2 * (c.loop-at.known - parts.cut) in
    let looked : IsSpent base m c.args.from at past c.if-at-stop.stop (counted c.if-at-stop.steps) =
    elim c.if-at-stop.branch [
      | then-at-stop+else-not-is_pair_nearby w ↦
          subst (λ next. IsSpent base m c.args.from at past next (counted c.if-at-stop.steps)) (sym w.stop-is) (subst (λ t. IsSpent base m c.args.from at past w.saturating_add-stop-then-at-stop.result (counted t)) (sym w.steps-is)
          (spent-looking base m c.args.from at past c.loop-at.stop c.saturating_mul-stretch.result (counted c.loop-at.steps) (counted w.is_pair_nearby.new.steps) w.saturating_add-stop-then-at-stop.result c.requires.some c.loop-at.invariant.after
          w.if-at-stop.true (omega arith) c.saturating_mul-stretch.ensures w.saturating_add-stop-then-at-stop.ensures w.is_pair_nearby.ensures.0 w.is_pair_nearby.ensures.1 c.loop-at.invariant.spent))
      | else-at-stop w ↦
          subst (λ next. IsSpent base m c.args.from at past next (counted c.if-at-stop.steps)) (sym w.stop-is) (subst (λ t. IsSpent base m c.args.from at past c.loop-at.stop (counted t)) (sym w.steps-is) c.loop-at.invariant.spent)
    ] in
    let next = at + (index - parts.cut + 1) in
    let on = c.next_match-at.result in
    let occurs = OccursFrom g.S.Side.BACK (number_read g.S.Side.READ g.C.Unit.number) c.args.needle.now c.args.units.now in
    let passed : (k : ℕ) → at ≤ k → k < next → ¬ (occurs k) = none-until x m parts c.factorize-parts.ensures.parts h (length c.args.units.now) at index (omega arith) c.if-index-len.true same differ in
    let cost : counted c.next_match-at.new.steps + past ≤ counted c.if-at-stop.steps + 2 * (0 - parts.cut) + 4 * (on - at) =
    omega (arith, c.first_difference-index.ensures.steps.0, c.first_difference-index.ensures.steps.1, c.first_difference-index.ensures.after, c.max-start.ensures, c.next_match-at.ensures.steps.1, c.next_match-at.ensures.after) in
    record {
      within = c.next_match-at.ensures.within;
      after = omega (arith, c.next_match-at.ensures.after);
      few = omega arith;
      before = nowhere-further occurs c.args.from next on (nowhere-further occurs c.args.from at next c.loop-at.invariant.before passed) c.next_match-at.ensures.before;
      same = λ k l. absurd (omega (arith, l));
      spent = spent-comparing base m c.args.from at past c.if-at-stop.stop (counted c.if-at-stop.steps) on (2 * (0 - parts.cut)) (counted c.next_match-at.new.steps) c.loop-at.invariant.after (omega (arith, c.next_match-at.ensures.after))
          (omega (arith, c.first_difference-index.ensures.steps.0, c.first_difference-index.ensures.steps.1, c.first_difference-index.ensures.after, c.next_match-at.ensures.steps.0)) cost looked;
    }

pub returns-then-first-parts-clause-stop : goal.returns-then-first-parts-clause-stop
returns-then-first-parts-clause-stop g c =
    let x = number_from g.S.Side.BACK (number_read g.S.Side.READ g.C.Unit.number) c.args.needle.now in
    let h = number_from g.S.Side.BACK (number_read g.S.Side.READ g.C.Unit.number) c.args.units.now in
    let at = c.loop-at.at in
    let parts = c.factorize-parts.result in
    let second = known-from (λ k. h (at + k) ≡ x k) c.loop-at.known parts.cut c.max-start.result c.first_difference-index.result (omega arith) c.loop-at.invariant.same c.first_difference-index.ensures.same in
    let first = known-from (λ k. h (at + k) ≡ x k) c.loop-at.known 0 c.min-start.result c.first_difference-first.result (omega arith) c.loop-at.invariant.same c.first_difference-first.ensures.same in
    record {
      after = c.loop-at.invariant.after;
      within = c.loop-at.invariant.within;
      here = λ _. record {
        fits = omega arith;
        reads = λ j l. elim (cases_lt j parts.cut) [
          | inl below ↦ first j (omega arith) (omega arith)
          | inr above ↦ second j above (omega arith)
        ];
      };
      before = c.loop-at.invariant.before;
    }

pub loop-at-preserved-then-parts : goal.loop-at-preserved-then-parts
loop-at-preserved-then-parts g c =
    let x = number_from g.S.Side.BACK (number_read g.S.Side.READ g.C.Unit.number) c.args.needle.now in
    let h = number_from g.S.Side.BACK (number_read g.S.Side.READ g.C.Unit.number) c.args.units.now in
    let m = length c.args.needle.now in
    let n = length c.args.units.now in
    let at = c.loop-at.at in
    let parts = c.factorize-parts.result in
    let second = known-from (λ k. h (at + k) ≡ x k) c.loop-at.known parts.cut c.max-start.result c.first_difference-index.result (omega arith) c.loop-at.invariant.same c.first_difference-index.ensures.same in
    let all : (k : ℕ) → parts.cut ≤ k → k < m → h (at + k) ≡ x k = λ k le l. second k le (omega (arith, l)) in
    let below : c.first_difference-first.result < parts.cut = omega arith in
    let differ = c.first_difference-first.ensures.differ below in
    let base = counted c.args.steps.now in
    let past = 2 * (c.loop-at.known - parts.cut) in
    let looked : IsSpent base m c.args.from at past c.if-at-stop.stop (counted c.if-at-stop.steps) =
    elim c.if-at-stop.branch [
      | then-at-stop+else-not-is_pair_nearby w ↦
          subst (λ next. IsSpent base m c.args.from at past next (counted c.if-at-stop.steps)) (sym w.stop-is) (subst (λ t. IsSpent base m c.args.from at past w.saturating_add-stop-then-at-stop.result (counted t)) (sym w.steps-is)
          (spent-looking base m c.args.from at past c.loop-at.stop c.saturating_mul-stretch.result (counted c.loop-at.steps) (counted w.is_pair_nearby.new.steps) w.saturating_add-stop-then-at-stop.result c.requires.some c.loop-at.invariant.after
          w.if-at-stop.true (omega arith) c.saturating_mul-stretch.ensures w.saturating_add-stop-then-at-stop.ensures w.is_pair_nearby.ensures.0 w.is_pair_nearby.ensures.1 c.loop-at.invariant.spent))
      | else-at-stop w ↦
          subst (λ next. IsSpent base m c.args.from at past next (counted c.if-at-stop.steps)) (sym w.stop-is) (subst (λ t. IsSpent base m c.args.from at past c.loop-at.stop (counted t)) (sym w.steps-is) c.loop-at.invariant.spent)
    ] in
    let longer : parts.cut < parts.period = elim (cases_lt parts.cut parts.period) [
      | inl l ↦ l
      | inr le ↦ absurd (c.factorize-parts.ensures.parts.beyond parts.period c.factorize-parts.ensures.parts.some le (c.factorize-parts.ensures.parts.repeats.0 c.if-parts.true))
    ] in
    record {
      within = omega (arith, c.factorize-parts.ensures.parts.fits);
      after = omega arith;
      few = omega arith;
      before = nowhere-further (OccursFrom g.S.Side.BACK (number_read g.S.Side.READ g.C.Unit.number) c.args.needle.now c.args.units.now) c.args.from at (at + parts.period) c.loop-at.invariant.before
          (none-within_period x m parts c.factorize-parts.ensures.parts h n at all c.first_difference-first.result below differ);
      same = known-after x m parts c.factorize-parts.ensures.parts h n at (c.factorize-parts.ensures.parts.repeats.0 c.if-parts.true) all;
      spent = spent-comparing base m c.args.from at past c.if-at-stop.stop (counted c.if-at-stop.steps) (at + parts.period) (2 * (m - parts.period - parts.cut)) (counted c.first_difference-first.new.steps) c.loop-at.invariant.after (omega arith)
          (omega (arith, c.first_difference-index.ensures.steps.0, c.first_difference-index.ensures.steps.1, c.first_difference-index.ensures.after, c.first_difference-first.ensures.steps.0, c.first_difference-first.ensures.steps.1, c.first_difference-first.ensures.after))
          (omega (arith, c.first_difference-index.ensures.steps.0, c.first_difference-index.ensures.steps.1, c.first_difference-index.ensures.after, c.first_difference-index.ensures.within, c.first_difference-first.ensures.steps.0, c.first_difference-first.ensures.steps.1, c.first_difference-first.ensures.after, c.max-start.ensures, below, longer, c.factorize-parts.ensures.parts.fits)) looked;
    }

pub loop-at-preserved : goal.loop-at-preserved
loop-at-preserved g c =
    let x = number_from g.S.Side.BACK (number_read g.S.Side.READ g.C.Unit.number) c.args.needle.now in
    let h = number_from g.S.Side.BACK (number_read g.S.Side.READ g.C.Unit.number) c.args.units.now in
    let m = length c.args.needle.now in
    let n = length c.args.units.now in
    let at = c.loop-at.at in
    let parts = c.factorize-parts.result in
    let second = known-from (λ k. h (at + k) ≡ x k) c.loop-at.known parts.cut c.max-start.result c.first_difference-index.result (omega arith) c.loop-at.invariant.same c.first_difference-index.ensures.same in
    let all : (k : ℕ) → parts.cut ≤ k → k < m → h (at + k) ≡ x k = λ k le l. second k le (omega (arith, l)) in
    let below : c.first_difference-first.result < parts.cut = omega arith in
    let differ = c.first_difference-first.ensures.differ below in
    let once : ¬ (IsRepeat x m parts.cut parts.period) = λ repeat. let e = c.factorize-parts.ensures.parts.repeats.1 repeat in cc (e, c.if-parts.false) in
    let base = counted c.args.steps.now in
    let past = 2 * (c.loop-at.known - parts.cut) in
    let looked : IsSpent base m c.args.from at past c.if-at-stop.stop (counted c.if-at-stop.steps) =
    elim c.if-at-stop.branch [
      | then-at-stop+else-not-is_pair_nearby w ↦
          subst (λ next. IsSpent base m c.args.from at past next (counted c.if-at-stop.steps)) (sym w.stop-is) (subst (λ t. IsSpent base m c.args.from at past w.saturating_add-stop-then-at-stop.result (counted t)) (sym w.steps-is)
          (spent-looking base m c.args.from at past c.loop-at.stop c.saturating_mul-stretch.result (counted c.loop-at.steps) (counted w.is_pair_nearby.new.steps) w.saturating_add-stop-then-at-stop.result c.requires.some c.loop-at.invariant.after
          w.if-at-stop.true (omega arith) c.saturating_mul-stretch.ensures w.saturating_add-stop-then-at-stop.ensures w.is_pair_nearby.ensures.0 w.is_pair_nearby.ensures.1 c.loop-at.invariant.spent))
      | else-at-stop w ↦
          subst (λ next. IsSpent base m c.args.from at past next (counted c.if-at-stop.steps)) (sym w.stop-is) (subst (λ t. IsSpent base m c.args.from at past c.loop-at.stop (counted t)) (sym w.steps-is) c.loop-at.invariant.spent)
    ] in
    record {
      within = omega (arith, c.factorize-parts.ensures.parts.below, below);
      after = omega arith;
      few = omega arith;
      before = nowhere-further (OccursFrom g.S.Side.BACK (number_read g.S.Side.READ g.C.Unit.number) c.args.needle.now c.args.units.now) c.args.from at (at + (c.max.result + 1)) c.loop-at.invariant.before
          (λ k le l occurs. elim (cases_lt (at + parts.cut) k) [
            | inl further ↦ none-within_rest x m parts c.factorize-parts.ensures.parts h n at all c.first_difference-first.result below differ once k le (omega (arith, further, l)) occurs
            | inr near ↦ none-within_cut x m parts c.factorize-parts.ensures.parts h n at all c.first_difference-first.result below differ once k le near occurs
          ]);
      same = λ k l. absurd (omega (arith, l));
      spent = spent-comparing base m c.args.from at past c.if-at-stop.stop (counted c.if-at-stop.steps) (at + (c.max.result + 1)) (2 * (0 - parts.cut)) (counted c.first_difference-first.new.steps) c.loop-at.invariant.after (omega arith)
          (omega (arith, c.first_difference-index.ensures.steps.0, c.first_difference-index.ensures.steps.1, c.first_difference-index.ensures.after, c.first_difference-first.ensures.steps.0, c.first_difference-first.ensures.steps.1, c.first_difference-first.ensures.after))
          (omega (arith, c.first_difference-index.ensures.steps.0, c.first_difference-index.ensures.steps.1, c.first_difference-index.ensures.after, c.first_difference-index.ensures.within, c.first_difference-first.ensures.steps.0, c.first_difference-first.ensures.steps.1, c.first_difference-first.ensures.after, c.max-start.ensures, c.max.ensures, below, c.factorize-parts.ensures.parts.below)) looked;
    }

pub loop-at-init : goal.loop-at-init
loop-at-init g c = record {
  within = c.requires.within;
  after = omega arith;
  few = omega arith;
  before = λ k le l. absurd (omega (arith, le, l));
  same = λ k l. absurd (omega (arith, l));
  spent = spent-first (counted c.args.steps.now) (length c.args.needle.now) c.args.from c.factorize-parts.result.cut c.saturating_add-stop.result c.saturating_mul-stretch.result (counted c.factorize-parts.new.steps) c.requires.some
      c.factorize-parts.ensures.steps.0 c.factorize-parts.ensures.steps.1 c.saturating_mul-stretch.ensures c.saturating_add-stop.ensures;
}

pub returns-then-first-parts-clause-steps : goal.returns-then-first-parts-clause-steps
returns-then-first-parts-clause-steps g c =
    let m = length c.args.needle.now in
    let at = c.loop-at.at in
    let parts = c.factorize-parts.result in
    let base = counted c.args.steps.now in
    let past = 2 * (c.loop-at.known - parts.cut) in
    let looked : IsSpent base m c.args.from at past c.if-at-stop.stop (counted c.if-at-stop.steps) =
    elim c.if-at-stop.branch [
      | then-at-stop+else-not-is_pair_nearby w ↦
          subst (λ next. IsSpent base m c.args.from at past next (counted c.if-at-stop.steps)) (sym w.stop-is) (subst (λ t. IsSpent base m c.args.from at past w.saturating_add-stop-then-at-stop.result (counted t)) (sym w.steps-is)
          (spent-looking base m c.args.from at past c.loop-at.stop c.saturating_mul-stretch.result (counted c.loop-at.steps) (counted w.is_pair_nearby.new.steps) w.saturating_add-stop-then-at-stop.result c.requires.some c.loop-at.invariant.after
          w.if-at-stop.true (omega arith) c.saturating_mul-stretch.ensures w.saturating_add-stop-then-at-stop.ensures w.is_pair_nearby.ensures.0 w.is_pair_nearby.ensures.1 c.loop-at.invariant.spent))
      | else-at-stop w ↦
          subst (λ next. IsSpent base m c.args.from at past next (counted c.if-at-stop.steps)) (sym w.stop-is) (subst (λ t. IsSpent base m c.args.from at past c.loop-at.stop (counted t)) (sym w.steps-is) c.loop-at.invariant.spent)
    ] in (
      omega (arith, looked.grows, c.first_difference-index.ensures.steps.0, c.first_difference-index.ensures.steps.1, c.first_difference-index.ensures.after, c.first_difference-first.ensures.steps.0, c.first_difference-first.ensures.steps.1, c.first_difference-first.ensures.after),
      omega (arith, looked.steps, c.first_difference-index.ensures.steps.0, c.first_difference-index.ensures.steps.1, c.first_difference-index.ensures.after, c.first_difference-index.ensures.within, c.first_difference-first.ensures.steps.0, c.first_difference-first.ensures.steps.1, c.first_difference-first.ensures.after, c.first_difference-first.ensures.within, c.max-start.ensures),
    )
