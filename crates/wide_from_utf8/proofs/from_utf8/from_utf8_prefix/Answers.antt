use Rattle.std.proofs.Common.{◌≡◌, ◌-◌, ◌∙◌, [], arith, drop, length, length-drop, length-take, map, take}
use Rattle.std.proofs.lemmas.List.{length-map, length-take-le, take_all}
use Rattle.wide_from_utf8.proofs.PrefixUnits.{decoded-ascii, decoded-beyond, decoded-char, decoded-next, decoded-none, decoded-then}
use Rattle.wide_from_utf8.proofs.from_utf8.from_utf8_prefix.Goals as goal

pub sixteens-init : goal.sixteens-init
sixteens-init g c = record { within = omega arith; few = omega arith; space = omega arith; prefix = decoded-none g.C.Unit.form c.args.text.now [] c.requires.text }

pub put_block-step-requires-clause-text : goal.put_block-step-requires-clause-text
put_block-step-requires-clause-text g c = decoded-beyond g.C.Unit.form c.args.text.now [] _ c.sixteens.read c.sixteens.invariant.prefix

pub sixteens-preserved : goal.sixteens-preserved
sixteens-preserved g c =
    let block = c.put_block-step in
    record {
      within = omega (arith, block.ensures.read);
      few = omega (arith, block.ensures.few, c.sixteens.invariant.few);
      space = omega (arith, block.ensures.space, block.auto.units);
      prefix = decoded-then g.C.Unit.form c.args.text.now [] _ _ c.sixteens.read block.result.read c.sixteens.invariant.prefix block.ensures.units;
    }

pub eights-preserved : goal.eights-preserved
eights-preserved g c =
    let form = g.C.Unit.form in
    let bs = c.args.text.now in
    let read = c.eights.read in
    let prefix = c.eights.invariant.prefix in
    let rest = take (length bs - read) (drop read bs) in
    record {
      within = omega (arith, c.eights-test.true);
      few = omega (arith, c.eights.invariant.few);
      space = omega (arith, c.if-units-written-ge8.true, c.put_eight_bytes.auto.units);
      prefix = decoded-then form bs [] _ _ read 8 prefix (decoded-ascii form rest _ _ 8 (decoded-beyond form bs [] _ read prefix) (omega (arith, c.eights-test.true, length-take (length bs - read) (drop read bs), length-drop read bs)) (c.are_eight_ascii.ensures c.if-are_eight_ascii.true) c.put_eight_bytes.ensures);
    }

pub first_char-c-requires-clause-text : goal.first_char-c-requires-clause-text
first_char-c-requires-clause-text g c = decoded-beyond g.C.Unit.form c.args.text.now [] _ c.ones.read c.ones.invariant.prefix

pub ones-preserved : goal.ones-preserved
ones-preserved g c =
    let form = g.C.Unit.form in
    let bs = c.args.text.now in
    let read = c.ones.read in
    let first = c.first_char-c.ensures.first in
    let character = c.first_char-c.result in
    let prefix = c.ones.invariant.prefix in
    record {
      within = omega (arith, first.3);
      few = omega (arith, first.2, c.put_char-written.ensures.high, c.ones.invariant.few);
      space = omega (arith, c.put_char-written.ensures.offset, c.char_len.ensures.value, c.if-units-written.false, c.ones.invariant.space, c.put_char-written.auto.units);
      prefix = decoded-then form bs [] _ _ read character.1 prefix (decoded-char form (take (length bs - read) (drop read bs)) _ _ character.0 character.1 (decoded-beyond form bs [] _ read prefix) first c.put_char-written.ensures.units);
    }

pub returns-then-units-written-clause-units : goal.returns-then-units-written-clause-units
returns-then-units-written-clause-units g c = c.ones.invariant.prefix.units

pub returns-then-units-written-clause-rest : goal.returns-then-units-written-clause-rest
returns-then-units-written-clause-rest g c = c.ones.invariant.prefix.rest

pub returns-then-units-written-clause-whole : goal.returns-then-units-written-clause-whole
returns-then-units-written-clause-whole g c = λ fits.
    let form = g.C.Unit.form in
    let bs = c.args.text.now in
    let read = c.ones.read in
    let us = map g.C.Unit.number (take c.ones.written c.ones.units) in
    let rest = take (length bs - read) (drop read bs) in
    let same : rest ≡ drop read bs = take_all (length bs - read) (drop read bs) (omega (arith, length-drop read bs)) in
    let character = c.first_char-c.result in
    let more = decoded-next form bs us rest read character.0 character.1 c.ones.invariant.prefix same (decoded-beyond form bs [] _ read c.ones.invariant.prefix) c.first_char-c.ensures.first in
    let long : length us ≡ c.ones.written = length-map (take c.ones.written c.ones.units) g.C.Unit.number ∙ length-take-le c.ones.written c.ones.units c.ones.invariant.space in
    absurd (omega (arith, fits, more, long, c.char_len.ensures.value, c.if-units-written.true))

pub returns-clause-units : goal.returns-clause-units
returns-clause-units g c = c.ones.invariant.prefix.units

pub returns-clause-rest : goal.returns-clause-rest
returns-clause-rest g c = c.ones.invariant.prefix.rest
