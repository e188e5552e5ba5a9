use Rattle.std.proofs.Common.{◌≡◌, ◌+◌, ◌-◌, ◌*◌, IsTrue, suc, inl, inr, ◌∙◌, ap, arith, length}
use Rattle.std.proofs.Math.Nat.{mul-suc}
use Rattle.std.proofs.lemmas.Bool.{cases_lt}
use Rattle.std.proofs.lemmas.Nat.{column_fits}
use Rattle.wide_search.proofs.search.find_by_first.Goals as goal

pub loop-at-preserved : goal.loop-at-preserved
loop-at-preserved g c =
    let i = c.loop-at.invariant in
    let m = length (g.P.Needle.sought c.args.needle) in
    let n = length c.args.units.now in
    let unfound : ¬ (IsTrue c.find_next-stop.result.is_found) = λ found. cc (found, c.if-stop.false) in
    let cost = c.find_next-stop.ensures.unfound unfound c.loop-at-test.true in
    let further = c.find_next-stop.ensures.further c.loop-at-test.true unfound in
    record {
      after = omega (arith, i.after, c.find_next-stop.ensures.after);
      fewer = omega (arith, i.fewer);
      forward = omega (arith, i.forward, further, c.if-tries-gt0.true);
      within = c.find_next-stop.ensures.within;
      before = c.find_next-stop.ensures.before;
      grows = omega (arith, i.grows, cost.0);
      narrow = λ narrow. omega (arith, i.narrow narrow, cost.1, narrow, further, i.after);
      wide = λ most.
          let tries = c.args.most - (c.loop-at.tries - 1) in
          let e : 48 - (c.args.most - c.loop-at.tries) ≡ suc (48 - tries) = omega (arith, most, i.fewer, c.if-tries-gt0.true) in
          let split : m * (48 - (c.args.most - c.loop-at.tries)) ≡ m * (48 - tries) + m = ap (λ k. m * k) e ∙ mul-suc m (48 - tries) in
          omega (arith, i.wide most, split, cost.1, further, i.after);
      left = elim (cases_lt (n + 1) (c.find_next-stop.result.at + m)) [
        | inl none ↦ (let e : n + 1 - m - c.find_next-stop.result.at ≡ 0 = omega (arith, none) in
            let zero : m * (n + 1 - m - c.find_next-stop.result.at) ≡ 0 = ap (λ k. m * k) e ∙ omega arith in
            omega (arith, i.left, zero, (c.find_next-stop.ensures.none_left unfound c.loop-at-test.true none).1, further, i.after))
        | inr some ↦ omega (arith, i.left, cost.1, further, i.after, column_fits m (n + 1 - m - c.find_next-stop.result.at) m (n + 1 - m - c.loop-at.at) (omega (arith, some, further)) (omega arith))
      ];
    }
