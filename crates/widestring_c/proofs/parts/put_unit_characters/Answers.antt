use Rattle.std.proofs.Common.{◌≡◌, ◌+◌, ◌++◌, ◌≤◌, arith, ap, subst, sym, ◌∙◌, length, length-take-le, map, take}
use Rattle.std.proofs.lemmas.List.{length-map, map-append}
use Rattle.wide_forms.specs.EncodingForm.{code_units}
use Rattle.wide_forms.specs.Items.{items}
use Rattle.widestring_c.specs.Parts.{Converts}
use Rattle.widestring_c.proofs.Buffers.{after_more}
use Rattle.widestring_c.proofs.Converted.{character-of, converts-more}
use Rattle.widestring_c.proofs.parts.put_unit_characters.Goals as goal

pub characters-preserved : goal.characters-preserved
characters-preserved g c =
    let form = g.C.Unit.form in
    let number = g.C.Unit.number in
    let view = g.D.Unit.number in
    let to = code_units g.D.Unit.form in
    let units = c.args.units.now in
    let ch = c.in-Ok.c in
    let old = c.characters in
    let n = c.char_len-read.result in
    let put = c.put_items-written in
    let made = c.put_char-len in
    let e = c.in-Some.ensures in
    let one = character-of form to number units old.read n c.split_at.result.1.now c.in-Some.field-0-1.now ch c.in-Some.item c.split_at.ensures.back c.in-Ok.is c.char_len-read.ensures.value e.some e.rest e.length in
    let piece = take made.result made.new.units in
    let short : length piece ≡ made.result = length-take-le made.result made.new.units (omega (arith, made.ensures.high, made.auto.units, old.invariant.chunk)) in
    let fits : put.result ≤ length old.out = omega (arith, put.ensures.offset, short, c.if-len-out.false, old.invariant.within) in
    let text : map view (take put.result put.new.space) ≡ map view (take old.written old.out) ++ to ch = ap (map view) (put.ensures.items fits) ∙ map-append view (take old.written old.out) piece ∙ ap (λ us. map view (take old.written old.out) ++ us) made.ensures.units in
    let all = converts-more (items form) (code_units form) to (map number units) old.read n (map view (take old.written old.out)) (to ch) old.invariant.converts one in
    record {
      converts = subst (λ us. Converts (items form) (code_units form) to (map number units) (old.read + n) us) (sym text) all;
      read = omega (arith, all.within, length-map units number);
      within = omega (arith, fits, put.ensures.space);
      space = put.ensures.space ∙ old.invariant.space;
      beyond = after_more c.args.out.now old.out put.new.space (length piece) old.written put.result (omega arith) put.ensures.offset old.invariant.beyond put.ensures.beyond;
      chunk = omega (arith, old.invariant.chunk, made.auto.units);
    }
