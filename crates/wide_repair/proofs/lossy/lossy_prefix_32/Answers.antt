use Rattle.std.proofs.Common.{◌∙◌, ap, arith, take}
use Rattle.std.specs.Prelude.{is_some}
use Rattle.wide_repair.proofs.LossyScalars.{all-passed, all-states, state-passed, unit-passed}
use Rattle.wide_repair.proofs.lossy.lossy_prefix_32.Goals as goal

pub loop-k-preserved : goal.loop-k-preserved
loop-k-preserved c =
    let us = take c.min-read.result c.args.units.now in
    let k = c.loop-k.k in
    let before = take c.loop-k.at c.loop-k.text in
    let now = take c.put_one-at.result c.put_one-at.new.compressed in
    let is = c.repaired_scalar-repaired.ensures in
    let some = c.is_some-is_written.ensures ∙ ap is_some c.replacement.ensures in
    record {
      few = omega (arith, c.loop-k.invariant.few, c.put_one-at.ensures.high);
      space = omega (arith, c.loop-k.invariant.space, c.put_one-at.auto.compressed);
      units =
          rw is
          (unit-passed c.args.policy c.args.after_fault c.loop-k.is_after us before now k (omega (arith, c.loop-k-test.true)) c.loop-k.invariant.units
          (rw (is, some) at c.put_one-at.ensures.units));
      state = rw is (state-passed c.args.policy c.args.after_fault c.loop-k.is_after us k (omega (arith, c.loop-k-test.true)) c.loop-k.invariant.state);
    }

pub returns-clause-text : goal.returns-clause-text
returns-clause-text c = all-passed c.args.policy c.args.after_fault c.loop-k.is_after (take c.min-read.result c.args.units.now) (take c.loop-k.at c.loop-k.text) c.loop-k.k (omega (arith, c.loop-k-test.false)) c.loop-k.invariant.units

pub returns-clause-state : goal.returns-clause-state
returns-clause-state c = all-states c.args.after_fault c.loop-k.is_after (take c.min-read.result c.args.units.now) c.loop-k.k (omega (arith, c.loop-k-test.false)) c.loop-k.invariant.state
