use Rattle.std.proofs.Common.{refl, arith, get_or}
use Rattle.wide_utf16_to_utf8.proofs.UnitEncodings.{units-none, more-unit, more-pair, stops-at_end, stops-at_high, stops-at_low, stops-at_unpaired}
use Rattle.wide_utf16_to_utf8.proofs.one_unit.encode_plain.Goals as goal

pub units-init : goal.units-init
units-init c = record { within = omega arith; space = omega arith; encoded = units-none _ }

pub units-preserved-then-unit-ge57344 : goal.units-preserved-then-unit-ge57344
units-preserved-then-unit-ge57344 c =
    let below = (c.type_inv.units c.units.read).fits in
    record {
      within = omega arith;
      space = omega arith;
      encoded = more-unit c.args.units.now c.units.read (get_or c.args.units.now c.units.read 0) c.units.invariant.encoded (omega arith) refl (omega (arith, below)) (λ from. omega (arith, c.if-unit-ge57344.either)) c.put_unit-written.ensures.text;
    }

pub returns-then-unit-ge56320-clause-stop : goal.returns-then-unit-ge56320-clause-stop
returns-then-unit-ge56320-clause-stop c = stops-at_low c.args.units.now c.units.read _ (omega arith) refl (omega arith) (omega arith)

pub returns-then-units-read-eq1-clause-stop : goal.returns-then-units-read-eq1-clause-stop
returns-then-units-read-eq1-clause-stop c = stops-at_high c.args.units.now c.units.read _ (omega arith) refl (omega arith) (omega arith)

pub returns-then-low-lt56320-clause-stop : goal.returns-then-low-lt56320-clause-stop
returns-then-low-lt56320-clause-stop c =
    stops-at_unpaired c.args.units.now c.units.read _ _ (omega arith) refl refl (omega arith) (omega arith) (λ from. omega (arith, c.then-low-lt56320.either))

pub units-preserved : goal.units-preserved
units-preserved c = record {
  within = omega arith;
  space = omega arith;
  encoded = more-pair c.args.units.now c.units.read _ _ c.units.invariant.encoded (omega arith) refl refl (omega arith) (omega arith) (omega arith) (omega arith) c.put_pair-written.ensures.text;
}

pub returns-after-units-clause-stop : goal.returns-after-units-clause-stop
returns-after-units-clause-stop c = stops-at_end c.args.units.now c.units.read (omega arith)
