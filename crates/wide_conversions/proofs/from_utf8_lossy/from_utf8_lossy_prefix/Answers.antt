use Rattle.std.proofs.Common.{[], arith, map, refl, take}
use Rattle.wide_conversions.proofs.LossyItems.{lossy-none, lossy-then}
use Rattle.wide_conversions.proofs.from_utf8_lossy.from_utf8_lossy_prefix.Goals as goal

pub items-init : goal.items-init
items-init g c = record { within = omega arith; valid = omega arith; begun = λ some. absurd (omega arith); space = omega arith; long = refl; prefix = lossy-none g.C.Unit.form c.args.policy c.args.text.now [] c.args.after_fault }

pub items-preserved-then-after_fault : goal.items-preserved-then-after_fault
items-preserved-then-after_fault g c =
    let more = c.put_prefix-step in
    let prefix = lossy-then g.C.Unit.form c.args.policy c.args.text.now [] (map g.C.Unit.number (take c.items.written c.items.units)) _ c.items.read more.result.read c.args.after_fault c.items.after_fault more.result.after_fault c.items.invariant.prefix more.ensures.units in
    record {
      within = omega (arith, more.ensures.read);
      valid = omega arith;
      begun = λ some. omega (arith, more.ensures.some);
      space = omega (arith, more.ensures.space);
      long = omega (arith, more.auto.units, c.items.invariant.long);
      prefix = prefix;
    }

pub items-preserved : goal.items-preserved
items-preserved g c =
    let more = c.put_prefix-step in
    let prefix = lossy-then g.C.Unit.form c.args.policy c.args.text.now [] (map g.C.Unit.number (take c.items.written c.items.units)) _ c.items.read more.result.read c.args.after_fault c.items.after_fault more.result.after_fault c.items.invariant.prefix more.ensures.units in
    record {
      within = omega (arith, more.ensures.read);
      valid = omega (arith, c.items.invariant.valid);
      begun = λ some. omega (arith, more.ensures.some);
      space = omega (arith, more.ensures.space);
      long = omega (arith, more.auto.units, c.items.invariant.long);
      prefix = prefix;
    }
