use Rattle.std.proofs.Common.{arith}
use Rattle.wide_iter.proofs.FaultRuns.{passed_first}
use Rattle.wide_iter.proofs.lossy_with.first_character.Goals as goal

pub loop-item-preserved-in_default-item : goal.loop-item-preserved-in_default-item
loop-item-preserved-in_default-item g c =
    let i = c.loop-item.invariant in
    let on = c.in-Some.ensures.goes.on i.asked.ends in
    record {
      asked = record { asks = on.0; ends = on.1 };
      fewer = omega (arith, i.fewer, on.2);
      passed = passed_first _ _ _ i.passed c.in_default-item.field-0 (rw c.in_default-item.is at c.in-Some.ensures.steps);
    }
