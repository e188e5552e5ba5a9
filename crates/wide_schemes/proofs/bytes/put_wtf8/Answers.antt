use Rattle.std.proofs.Common.{◌≡◌, ◌++◌, ◌∙◌, [], ap, refl, subst, sym, arith, take, drop}
use Rattle.std.proofs.lemmas.List.{append-nil, drop_all}
use Rattle.wide_utf16_to_utf8.specs.Encoded.{EncodedUnits, StopsBefore}
use Rattle.wide_schemes.specs.Wtf8.{wtf8}
use Rattle.wide_schemes.specs.Wtf8Laws.{wtf8-nil}
use Rattle.wide_schemes.proofs.Encoding.{encoded-next, fault-next}
use Rattle.wide_schemes.proofs.bytes.put_wtf8.Goals as goal

pub loop-read-preserved : goal.loop-read-preserved
loop-read-preserved c =
    let units = c.args.units.now in
    let read = c.loop-read.read in
    let step = c.utf16_to_utf8_until_fault-step.result in
    let before = take c.loop-read.written c.loop-read.out in
    let after = take step.written c.utf16_to_utf8_until_fault-step.new.out in
    let encoded : EncodedUnits (take step.read (drop read units)) before after = subst (λ us. EncodedUnits (take step.read us) before after) c.split_at.ensures.back c.utf16_to_utf8_until_fault-step.ensures.text in
    record {
      within = omega (arith, c.loop-read.invariant.within, c.utf16_to_utf8_until_fault-step.ensures.read, c.split_at.ensures.back_len);
      room = omega (arith, c.loop-read.invariant.room, c.utf16_to_utf8_until_fault-step.ensures.written);
      long = omega arith;
      text = encoded-next units read step.read before after (wtf8 units) c.loop-read.invariant.text encoded;
    }

pub loop-read-preserved-then-read-units : goal.loop-read-preserved-then-read-units
loop-read-preserved-then-read-units c =
    let units = c.args.units.now in
    let read = c.loop-read.read in
    let step = c.utf16_to_utf8_until_fault-step.result in
    let before = take c.loop-read.written c.loop-read.out in
    let after = take step.written c.utf16_to_utf8_until_fault-step.new.out in
    let encoded : EncodedUnits (take step.read (drop read units)) before after = subst (λ us. EncodedUnits (take step.read us) before after) c.split_at.ensures.back c.utf16_to_utf8_until_fault-step.ensures.text in
    let stop : StopsBefore (drop step.read (drop read units)) step.fault = subst (λ us. StopsBefore (drop step.read us) step.fault) c.split_at.ensures.back c.utf16_to_utf8_until_fault-step.ensures.stop in
    record {
      within = omega (arith, c.if-read-units.true);
      room = omega (arith, c.loop-read.invariant.room, c.utf16_to_utf8_until_fault-step.ensures.written, c.put_unit-written.ensures.high);
      long = omega arith;
      text = fault-next units read step.read before after (wtf8 units) c.loop-read.invariant.text encoded step.fault _ (take c.put_unit-written.result c.put_unit-written.new.out) c.if-read-units.true stop refl c.put_unit-written.ensures.text;
    }

pub returns-clause-text : goal.returns-clause-text
returns-clause-text c =
    let units = c.args.units.now in
    let before = take c.loop-read.written c.loop-read.out in
    let none : wtf8 (drop c.loop-read.read units) ≡ [] = ap wtf8 (drop_all c.loop-read.read units (omega (arith, c.loop-read-test.false))) ∙ wtf8-nil in
    sym (c.loop-read.invariant.text ∙ ap (λ bs. before ++ bs) none ∙ append-nil before)
