use Rattle.std.proofs.Common.{◌≡◌, ◌+◌, ◌-◌, ap, take, length, arith, subst}
use Rattle.wide_unit.proofs.SameLanes.{same-further, same-shorter}
use Rattle.wide_unit.proofs.same_blocks.same_lanes.Goals as goal

pub returns-then-bits-ne0-clause-same : goal.returns-then-bits-ne0-clause-same
returns-then-bits-ne0-clause-same g c =
    same-further c.args.left.now c.args.right.now c.loop-at.at _ _ (omega (arith, c.differences-bits.ensures.within c.if-bits-ne0.true, c.COUNT-in-loop-at.ensures)) c.loop-at.invariant.1 (c.differences-bits.ensures.same c.if-bits-ne0.true)

pub loop-at-preserved : goal.loop-at-preserved
loop-at-preserved g c =
    let left = c.args.left.now in
    let right = c.args.right.now in
    let n = c.COUNT-in-loop-at.result in (
      omega (arith, c.loop-at-test.true, c.COUNT.ensures, c.COUNT-in-loop-at.ensures, c.loop-at.invariant.0),
      same-further left right c.loop-at.at _ n (omega arith) c.loop-at.invariant.1 (ap (take n) (c.differences-bits.ensures.none (omega (arith, c.if-bits-ne0.false)))),
    )

pub returns-then-bits-ne0-2-clause-same : goal.returns-then-bits-ne0-2-clause-same
returns-then-bits-ne0-2-clause-same g c =
    let left = c.args.left.now in
    let right = c.args.right.now in
    let start = length left - c.COUNT-then-len-COUNT.result in
    let before = same-shorter left right start c.loop-at.at (omega (arith, c.loop-at-test.false, c.COUNT.ensures, c.COUNT-then-len-COUNT.ensures)) c.loop-at.invariant.1 in
    same-further left right start _ _
    (omega (arith, c.differences-bits-then-len-COUNT.ensures.within c.if-bits-ne0-2.true, c.if-len-COUNT.true, c.COUNT-then-at-len.ensures, c.COUNT-then-len-COUNT.ensures)) before (c.differences-bits-then-len-COUNT.ensures.same c.if-bits-ne0-2.true)

pub returns-then-len-COUNT-clause-same : goal.returns-then-len-COUNT-clause-same
returns-then-len-COUNT-clause-same g c =
    let left = c.args.left.now in
    let right = c.args.right.now in
    let n = c.COUNT-then-len-COUNT.result in
    let start = length left - n in
    let end : start + n ≡ length left = omega (arith, c.if-len-COUNT.true, c.COUNT-then-at-len.ensures, c.COUNT-then-len-COUNT.ensures) in
    let before = same-shorter left right start c.loop-at.at (omega (arith, c.loop-at-test.false, c.COUNT.ensures, c.COUNT-then-len-COUNT.ensures)) c.loop-at.invariant.1 in
    subst (λ m. take m left ≡ take m right) end
    (same-further left right start _ n (omega (arith, end)) before (ap (take n) (c.differences-bits-then-len-COUNT.ensures.none (omega (arith, c.if-bits-ne0-2.false)))))
