use Rattle.std.proofs.Common.{ap, ◌+◌}
use Rattle.std.proofs.Math.Nat.{le_trans}
use Rattle.wide_editable.proofs.Runs.{run_on}
use Rattle.wide_editable.proofs.lockstep.make_all.Goals as goal

pub loop-edit-preserved : goal.loop-edit-preserved
loop-edit-preserved g c = record {
  count = ap (λ n. n + 1) c.loop-edit.invariant.count;
  made = run_on _ _ _ _ _ _ _ _ _ c.loop-edit-test.true c.loop-edit.invariant.made c.in-Ok.ensures.ok;
  capacity = le_trans c.loop-edit.invariant.capacity c.in-Ok.ensures.capacity;
}
