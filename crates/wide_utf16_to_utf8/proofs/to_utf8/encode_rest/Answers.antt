use Rattle.std.proofs.Common.{◌≡◌, ◌+◌, ◌-◌, ◌<◌, ℕ, [], length, get_or, take, drop, sym, subst, arith, length-take, length-drop, get_or-take}
use Rattle.std.proofs.lemmas.List.{take_all}
use Rattle.wide_utf16_to_utf8.proofs.Lanes.{more-block, more-lead, encoded-ascii, stop-last}
use Rattle.wide_utf16_to_utf8.proofs.UnitEncodings.{units-none}
use Rattle.wide_utf16_to_utf8.specs.Encoded.{EncodedUnits}
use Rattle.wide_utf16_to_utf8.proofs.to_utf8.encode_rest.Goals as goal

pub eights-init : goal.eights-init
eights-init c =
    let same : c.args.at ≡ c.args.at + 0 = omega arith in
    record {
      within = omega arith;
      encoded = subst (λ n. EncodedUnits [] (take c.args.at c.args.out.now) (take n c.args.out.now)) same (units-none (take c.args.at c.args.out.now));
    }

pub eights-preserved : goal.eights-preserved
eights-preserved c =
    let us = c.args.units.now in
    let read = c.eights.read in
    let at = c.args.at in
    let rest = take (length us - read) (drop read us) in
    let beyond : rest ≡ drop read us = take_all (length us - read) (drop read us) (omega (arith, length-drop read us)) in
    let before = take (at + read) c.eights.out in
    let long : length (take 8 rest) ≡ 8 = omega (arith, c.eights-test.true, length-take 8 rest, length-take (length us - read) (drop read us), length-drop read us) in
    let low = c.are_eight_ascii.ensures c.if-are_eight_ascii.true in
    let ascii : (k : ℕ) → k < length (take 8 rest) → get_or (take 8 rest) k 0 < 0x80 = λ k within. omega (arith, get_or-take 8 rest k 0 (omega (arith, within, long)), low k (omega (arith, within, long))) in
    let text = subst (λ t. EncodedUnits (take 8 rest) before t) (sym c.put_eight_ascii.ensures) (encoded-ascii (take 8 rest) before ascii) in
    let block : EncodedUnits (take 8 (drop read us)) before (take (at + read + 8) c.put_eight_ascii.new.out) = subst (λ vs. EncodedUnits (take 8 vs) before (take (at + read + 8) c.put_eight_ascii.new.out)) beyond text in
    let next : at + read + 8 ≡ at + (read + 8) = omega arith in
    record {
      within = omega (arith, c.eights-test.true);
      encoded = subst (λ n. EncodedUnits (take (read + 8) us) (take at c.args.out.now) (take n c.put_eight_ascii.new.out)) next (more-lead us read 8 c.eights.invariant.encoded block);
    }

pub returns-clause-text : goal.returns-clause-text
returns-clause-text c =
    let n = length c.args.units.now - c.eights.read in
    let within = c.encode_plain-step.ensures.read in
    more-block c.args.units.now c.eights.read c.encode_plain-step.result.read n (omega (arith, within, length-take n (drop c.eights.read c.args.units.now))) c.eights.invariant.encoded c.encode_plain-step.ensures.text

pub returns-clause-stop : goal.returns-clause-stop
returns-clause-stop c = stop-last c.args.units.now c.eights.read c.encode_plain-step.result.read (length c.args.units.now - c.eights.read) _ (omega arith) c.encode_plain-step.ensures.stop
