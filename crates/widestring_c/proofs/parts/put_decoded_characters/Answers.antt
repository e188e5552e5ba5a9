use Rattle.std.proofs.Common.{◌≡◌, ◌+◌, ◌++◌, ◌≤◌, arith, ap, subst, sym, ◌∙◌, length, length-drop, length-take-le, map, take}
use Rattle.std.proofs.lemmas.List.{map-append}
use Rattle.std.proofs.lemmas.Str.{length-encode}
use Rattle.wide_forms.specs.EncodingForm.{code_units}
use Rattle.wide_forms.specs.Utf8.{utf8_bytes}
use Rattle.wide_forms.specs.Laws.Utf8.{utf8_bytes-encode_utf8}
use Rattle.wide_conversions.specs.Utf8Items.{utf8_items}
use Rattle.widestring_c.specs.Parts.{Converts}
use Rattle.widestring_c.proofs.Buffers.{after_more}
use Rattle.widestring_c.proofs.Converted.{char-of, converts-more}
use Rattle.widestring_c.proofs.parts.put_decoded_characters.Goals as goal

pub characters-smaller : goal.characters-smaller
characters-smaller g c =
    let ch = c.in-Some.c in
    let n = c.len_utf8-read.result in
    let same : n ≡ length (utf8_bytes ch) = omega (arith, c.len_utf8-read.ensures.value, ap length (utf8_bytes-encode_utf8 ch), length-encode ch) in
    let one = char-of (code_units g.D.Unit.form) c.args.text.now c.split_at.result.1.now c.characters.read n ch c.split_at.ensures.back same c.in-Some.ensures.some in
    omega (arith, one.within, length-drop c.characters.read c.args.text.now, c.len_utf8-read.ensures.lower_bound, c.characters.invariant.read)

pub characters-preserved : goal.characters-preserved
characters-preserved g c =
    let view = g.D.Unit.number in
    let to = code_units g.D.Unit.form in
    let ch = c.in-Some.c in
    let old = c.characters in
    let n = c.len_utf8-read.result in
    let put = c.put_items-written in
    let made = c.put_char-len in
    let same : n ≡ length (utf8_bytes ch) = omega (arith, c.len_utf8-read.ensures.value, ap length (utf8_bytes-encode_utf8 ch), length-encode ch) in
    let one = char-of to c.args.text.now c.split_at.result.1.now old.read n ch c.split_at.ensures.back same c.in-Some.ensures.some in
    let piece = take made.result made.new.units in
    let short : length piece ≡ made.result = length-take-le made.result made.new.units (omega (arith, made.ensures.high, made.auto.units, old.invariant.chunk)) in
    let fits : put.result ≤ length old.units = omega (arith, put.ensures.offset, short, c.if-len-units.false, old.invariant.within) in
    let text : map view (take put.result put.new.space) ≡ map view (take old.written old.units) ++ to ch = ap (map view) (put.ensures.items fits) ∙ map-append view (take old.written old.units) piece ∙ ap (λ us. map view (take old.written old.units) ++ us) made.ensures.units in
    let all = converts-more utf8_items utf8_bytes to c.args.text.now old.read n (map view (take old.written old.units)) (to ch) old.invariant.converts one in
    record {
      converts = subst (λ us. Converts utf8_items utf8_bytes to c.args.text.now (old.read + n) us) (sym text) all;
      read = all.within;
      within = omega (arith, fits, put.ensures.space);
      space = put.ensures.space ∙ old.invariant.space;
      beyond = after_more c.args.units.now old.units put.new.space (length piece) old.written put.result (omega arith) put.ensures.offset old.invariant.beyond put.ensures.beyond;
      chunk = omega (arith, old.invariant.chunk, made.auto.units);
    }
