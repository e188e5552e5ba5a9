use Rattle.std.proofs.Common.{ap, ◌+◌}
use Rattle.std.proofs.Math.Nat.{le_trans}
use Rattle.wide_editable.proofs.Runs.{run_on}
use Rattle.wide_editable.proofs.lockstep.make_all_both.Goals as goal

pub loop-edit-preserved : goal.loop-edit-preserved
loop-edit-preserved g c = record {
  count = ap (λ n. n + 1) c.loop-edit.invariant.count;
  made_first = run_on _ _ _ _ _ _ _ _ _ c.loop-edit-test.true c.loop-edit.invariant.made_first c.in-Ok.ensures.ok_first;
  made_second = run_on _ _ _ _ _ _ _ _ _ c.loop-edit-test.true c.loop-edit.invariant.made_second c.in-Ok.ensures.ok_second;
  capacity_first = le_trans c.loop-edit.invariant.capacity_first c.in-Ok.ensures.capacity_first;
  capacity_second = le_trans c.loop-edit.invariant.capacity_second c.in-Ok.ensures.capacity_second;
}
