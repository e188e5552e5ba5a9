use Rattle.std.proofs.Common.{◌++◌, arith, ap, sym, ◌∙◌, length, length-append}
use Rattle.wide_search.specs.Cut.{substrings}
use Rattle.wide_replace.specs.Replaced.{joined_first}
use Rattle.wide_replace.proofs.Joined.{joined-rest, joined-only, joined-one_more, full-before, full-with, on_ok, on_err, on_err-of}
use Rattle.wide_replace.proofs.replaced.push_replaced.Goals as goal

pub loop-left-preserved : goal.loop-left-preserved
loop-left-preserved g c =
    let done = (g.S.Growing.seen c.loop-left.string).units in
    let numbers = g.V.SplitView.numbers_seen in
    let one = c.in_ok-push_to.ensures.ok ∙ ap (λ us. done ++ us) (sym (c.requires _)) in
    let two = c.in_ok-push_to-2.ensures.ok ∙ ap (λ us. (g.S.Growing.seen c.push_to-in-loop-left.new.string).units ++ us) (sym (c.requires c.args.with)) in record {
      units =
          c.loop-left.invariant.units
          ∙ joined-one_more (numbers c.args.with) (g.V.NeedleView.needle_numbers c.args.needle) (numbers c.loop-left.rest) _ _ done _ _ c.in-Some.ensures.some one two c.loop-left.left c.loop-left-test.true;
      capacity = omega (arith, c.loop-left.invariant.capacity, c.push_to-in-loop-left.ensures.capacity, c.push_to-in-loop-left-2.ensures.capacity);
    }

pub returns-in_default-clause-units : goal.returns-in_default-clause-units
returns-in_default-clause-units g c =
    let done = (g.S.Growing.seen c.loop-left.string).units in
    let numbers = g.V.SplitView.numbers_seen in
    let only = joined-only (numbers c.args.with) (g.V.NeedleView.needle_numbers c.args.needle) (numbers c.loop-left.rest) c.in_default.ensures.none c.loop-left.left in
    on_ok c.push_to.result (λ pushed. pushed ∙ ap (λ us. done ++ us) (sym (only ∙ c.requires c.loop-left.rest)) ∙ sym c.loop-left.invariant.units) c.push_to.ensures.ok

pub returns-in_default-clause-full : goal.returns-in_default-clause-full
returns-in_default-clause-full g c =
    let done = (g.S.Growing.seen c.loop-left.string).units in
    let numbers = g.V.SplitView.numbers_seen in
    let needle = g.V.NeedleView.needle_numbers c.args.needle in
    let only = joined-only (numbers c.args.with) needle (numbers c.loop-left.rest) c.in_default.ensures.none c.loop-left.left in
    let left = joined_first c.loop-left.left (numbers c.args.with) needle (substrings needle (numbers c.loop-left.rest)) in
    on_err c.push_to.result (λ full. omega (arith, full, ap length (only ∙ c.requires c.loop-left.rest), ap length c.loop-left.invariant.units, length-append done left, c.loop-left.invariant.capacity)) c.push_to.ensures.full

pub returns-in_err-push_to-clause-full : goal.returns-in_err-push_to-clause-full
returns-in_err-push_to-clause-full g c =
    let done = (g.S.Growing.seen c.loop-left.string).units in
    let numbers = g.V.SplitView.numbers_seen in
    let needle = g.V.NeedleView.needle_numbers c.args.needle in
    let left = joined_first c.loop-left.left (numbers c.args.with) needle (substrings needle (numbers c.loop-left.rest)) in
    let full =
    full-before (numbers c.args.with) needle (numbers c.loop-left.rest) _ _ _ done c.in-Some.ensures.some (c.requires _) c.loop-left.left (g.S.Growing.seen c.args.string.now).capacity _ c.loop-left-test.true c.in_err-push_to.ensures.full
    c.loop-left.invariant.capacity
    in
    on_err-of c.from_residual.result (omega (arith, full, ap length c.loop-left.invariant.units, length-append done left))

pub returns-in_err-push_to-2-clause-full : goal.returns-in_err-push_to-2-clause-full
returns-in_err-push_to-2-clause-full g c =
    let done = (g.S.Growing.seen c.loop-left.string).units in
    let so_far = (g.S.Growing.seen c.push_to-in-loop-left.new.string).units in
    let numbers = g.V.SplitView.numbers_seen in
    let needle = g.V.NeedleView.needle_numbers c.args.needle in
    let left = joined_first c.loop-left.left (numbers c.args.with) needle (substrings needle (numbers c.loop-left.rest)) in
    let one = c.in_ok-push_to.ensures.ok ∙ ap (λ us. done ++ us) (sym (c.requires _)) in
    let full =
    full-with (numbers c.args.with) needle (numbers c.loop-left.rest) _ _ _ done so_far c.in-Some.ensures.some (c.requires c.args.with) one c.loop-left.left (g.S.Growing.seen c.args.string.now).capacity _ c.loop-left-test.true
    c.in_err-push_to-2.ensures.full (omega (arith, c.loop-left.invariant.capacity, c.push_to-in-loop-left.ensures.capacity))
    in
    on_err-of c.from_residual-in_err-push_to-2.result (omega (arith, full, ap length c.loop-left.invariant.units, length-append done left))

pub returns-clause-units : goal.returns-clause-units
returns-clause-units g c =
    let done = (g.S.Growing.seen c.loop-left.string).units in
    let numbers = g.V.SplitView.numbers_seen in
    let all = joined-rest (numbers c.args.with) (g.V.NeedleView.needle_numbers c.args.needle) (numbers c.loop-left.rest) c.loop-left.left (omega (arith, c.loop-left-test.false)) in
    on_ok c.push_to-2.result (λ pushed. pushed ∙ ap (λ us. done ++ us) (sym (all ∙ c.requires c.loop-left.rest)) ∙ sym c.loop-left.invariant.units) c.push_to-2.ensures.ok

pub returns-clause-full : goal.returns-clause-full
returns-clause-full g c =
    let done = (g.S.Growing.seen c.loop-left.string).units in
    let numbers = g.V.SplitView.numbers_seen in
    let needle = g.V.NeedleView.needle_numbers c.args.needle in
    let all = joined-rest (numbers c.args.with) needle (numbers c.loop-left.rest) c.loop-left.left (omega (arith, c.loop-left-test.false)) in
    let left = joined_first c.loop-left.left (numbers c.args.with) needle (substrings needle (numbers c.loop-left.rest)) in
    on_err c.push_to-2.result (λ full. omega (arith, full, ap length (all ∙ c.requires c.loop-left.rest), ap length c.loop-left.invariant.units, length-append done left, c.loop-left.invariant.capacity)) c.push_to-2.ensures.full
