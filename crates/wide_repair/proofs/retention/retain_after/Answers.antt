use Rattle.std.proofs.Common.{◌-◌, arith, get_or, take}
use Rattle.wide_forms.specs.Bits.{bit_of}
use Rattle.wide_repair.proofs.Retained.{stayed-all, stayed-none, retained-eights}
use Rattle.wide_repair.proofs.retention.retain_after.Goals as goal

pub eights-preserved : goal.eights-preserved
eights-preserved c =
    let done = c.eights.done in
    let us = c.args.units.now in
    let ms = c.args.repaired.now in record {
      some = omega arith;
      within = omega (arith, c.eights-test.true, c.eights.invariant.within);
      few = omega (arith, c.put_retained-at.ensures.high, c.eights.invariant.few);
      space = omega (arith, c.put_retained-at.auto.compressed, c.eights.invariant.space);
      units = retained-eights c.args.policy 0 (bit_of c.args.after_fault) done us ms (take c.eights.at c.eights.compressed) (take c.put_retained-at.result c.put_retained-at.new.compressed) c.eights.invariant.some (omega (arith, c.eights-test.true, c.eights.invariant.within)) c.requires.long c.eights.invariant.units c.put_retained-at.ensures.units;
    }

pub returns-then-is_empty-clause-units : goal.returns-then-is_empty-clause-units
returns-then-is_empty-clause-units c = stayed-none c.args.policy c.args.after_fault c.args.units.now c.args.repaired.now c.requires.repaired (grind (arith, c.is_empty.ensures, c.if-is_empty.true))

pub returns-clause-units : goal.returns-clause-units
returns-clause-units c =
    let us = c.args.units.now in
    let ms = c.args.repaired.now in
    stayed-all c.args.policy c.args.after_fault us ms (take c.ones.at c.ones.compressed) (get_or us (c.ones.done - 1) 0) (get_or ms (c.ones.done - 1) 0) c.ones.done c.requires.repaired (omega (arith, c.ones-test.false)) c.ones.invariant.units
