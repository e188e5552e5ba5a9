use Rattle.std.proofs.Common.{◌≡◌, ◌+◌, ◌-◌, length, take, drop, sym, subst, arith, length-take, length-drop}
use Rattle.wide_utf16_to_utf8.proofs.Lanes.{more-block, more-lead, whole-more, encoded-ascii, stop-last, stop-more}
use Rattle.wide_utf16_to_utf8.proofs.UnitEncodings.{units-none}
use Rattle.wide_utf16_to_utf8.specs.Encoded.{EncodedUnits}
use Rattle.wide_utf16_to_utf8.proofs.to_utf8.utf16_to_utf8_until_fault.Goals as goal

pub sixteens-init : goal.sixteens-init
sixteens-init c = record { within = omega arith; space = omega arith; encoded = units-none _ }

pub sixteens-preserved-then-bits-lt128 : goal.sixteens-preserved-then-bits-lt128
sixteens-preserved-then-bits-lt128 c =
    let n = c.sixteens.read + 16 - c.sixteens.read in
    let block = take n (drop c.sixteens.read c.args.units.now) in
    let long : length block ≡ 16 = omega (arith, length-take n (drop c.sixteens.read c.args.units.now), length-drop c.sixteens.read c.args.units.now) in
    let text = encoded-ascii block (take c.sixteens.written c.sixteens.out) (λ k within. (let low = c.bits_of-bits.ensures k (omega (arith, long)) in omega (arith, low))) in
    record {
      within = omega arith;
      space = omega arith;
      encoded = whole-more c.args.units.now c.sixteens.read n (omega arith) c.sixteens.invariant.encoded (subst (λ t. EncodedUnits block (take c.sixteens.written c.sixteens.out) t) (sym c.put_ascii.ensures) text);
    }

pub sixteens-preserved-then-bits-lt2048 : goal.sixteens-preserved-then-bits-lt2048
sixteens-preserved-then-bits-lt2048 c = record {
  within = omega arith;
  space = omega (arith, c.put_two_bytes-written.ensures.high, c.sixteens.invariant.space);
  encoded = whole-more c.args.units.now c.sixteens.read (c.sixteens.read + 16 - c.sixteens.read) (omega arith) c.sixteens.invariant.encoded c.put_two_bytes-written.ensures.text;
}

pub sixteens-preserved-then-not-has_surrogate : goal.sixteens-preserved-then-not-has_surrogate
sixteens-preserved-then-not-has_surrogate c = record {
  within = omega arith;
  space = omega (arith, c.put_three_bytes-written.ensures.high, c.sixteens.invariant.space);
  encoded = whole-more c.args.units.now c.sixteens.read (c.sixteens.read + 16 - c.sixteens.read) (omega arith) c.sixteens.invariant.encoded c.put_three_bytes-written.ensures.text;
}

pub returns-then-is_some-clause-text : goal.returns-then-is_some-clause-text
returns-then-is_some-clause-text c = more-lead c.args.units.now c.sixteens.read c.encode_surrogates-step.result.read c.sixteens.invariant.encoded c.encode_surrogates-step.ensures.text

pub returns-then-is_some-clause-stop : goal.returns-then-is_some-clause-stop
returns-then-is_some-clause-stop c = stop-more c.args.units.now c.sixteens.read c.encode_surrogates-step.result.read _ (c.encode_surrogates-step.ensures.stop (sym c.if-is_some.ensures))

pub sixteens-preserved : goal.sixteens-preserved
sixteens-preserved c = record {
  within = omega (arith, c.encode_surrogates-step.ensures.read);
  space = omega (arith, c.encode_surrogates-step.ensures.written, c.sixteens.invariant.space);
  encoded = more-lead c.args.units.now c.sixteens.read c.encode_surrogates-step.result.read c.sixteens.invariant.encoded c.encode_surrogates-step.ensures.text;
}

pub sixteens-smaller : goal.sixteens-smaller
sixteens-smaller c = omega (arith, c.encode_surrogates-step.ensures.some (sym c.if-is_some.ensures))

pub returns-clause-text : goal.returns-clause-text
returns-clause-text c =
    let n = length c.args.units.now - c.sixteens.read in
    let within = c.encode_rest-step.ensures.read in
    more-block c.args.units.now c.sixteens.read c.encode_rest-step.result.read n (omega (arith, within, length-take n (drop c.sixteens.read c.args.units.now))) c.sixteens.invariant.encoded c.encode_rest-step.ensures.text

pub returns-clause-stop : goal.returns-clause-stop
returns-clause-stop c = stop-last c.args.units.now c.sixteens.read c.encode_rest-step.result.read (length c.args.units.now - c.sixteens.read) _ (omega arith) c.encode_rest-step.ensures.stop
