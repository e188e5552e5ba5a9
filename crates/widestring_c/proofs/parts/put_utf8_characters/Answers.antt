use Rattle.std.proofs.Common.{◌≡◌, ◌+◌, ◌-◌, ◌++◌, ◌≤◌, arith, ap, subst, sym, ◌∙◌, length, map, take, drop}
use Rattle.std.proofs.lemmas.List.{length-map}
use Rattle.std.proofs.lemmas.Str.{length-encode}
use Rattle.wide_forms.specs.EncodingForm.{code_units}
use Rattle.wide_forms.specs.Items.{items}
use Rattle.wide_forms.specs.Utf8.{utf8_bytes}
use Rattle.wide_forms.specs.Laws.Utf8.{utf8_bytes-encode_utf8}
use Rattle.widestring_c.specs.Parts.{Converts}
use Rattle.widestring_c.proofs.Buffers.{after_more}
use Rattle.widestring_c.proofs.Converted.{character-of, converts-more, first-of, stops-character}
use Rattle.widestring_c.proofs.parts.put_utf8_characters.Goals as goal

pub characters-preserved : goal.characters-preserved
characters-preserved g c =
    let form = g.C.Unit.form in
    let number = g.C.Unit.number in
    let units = c.args.units.now in
    let ch = c.in-Ok.c in
    let old = c.characters in
    let n = c.char_len-read.result in
    let put = c.put_items-written in
    let e = c.in-Some.ensures in
    let one = character-of form utf8_bytes number units old.read n c.split_at.result.1.now c.in-Some.field-0-1.now ch c.in-Some.item c.split_at.ensures.back c.in-Ok.is c.char_len-read.ensures.value e.some e.rest e.length in
    let bytes : c.as_bytes.result.now ≡ utf8_bytes ch = c.as_bytes.ensures.value ∙ c.encode_utf8.ensures.value ∙ sym (utf8_bytes-encode_utf8 ch) in
    let fits : put.result ≤ length old.text = omega (arith, put.ensures.offset, ap length c.as_bytes.ensures.value, c.encode_utf8.ensures.len, c.len_utf8.ensures.value, c.if-len_utf8-text.false, old.invariant.within) in
    let text : take put.result put.new.space ≡ take old.written old.text ++ utf8_bytes ch = put.ensures.items fits ∙ ap (λ bs. take old.written old.text ++ bs) bytes in
    let all = converts-more (items form) (code_units form) utf8_bytes (map number units) old.read n (take old.written old.text) (utf8_bytes ch) old.invariant.converts one in
    record {
      converts = subst (λ bs. Converts (items form) (code_units form) utf8_bytes (map number units) (old.read + n) bs) (sym text) all;
      read = omega (arith, all.within, length-map units number);
      within = omega (arith, fits, put.ensures.space);
      space = put.ensures.space ∙ old.invariant.space;
      beyond = after_more c.args.text.now old.text put.new.space (length c.as_bytes.result.now) old.written put.result (omega arith) put.ensures.offset old.invariant.beyond put.ensures.beyond;
    }

pub returns-then-len_utf8-text-clause-part : goal.returns-then-len_utf8-text-clause-part
returns-then-len_utf8-text-clause-part g c =
    let form = g.C.Unit.form in
    let number = g.C.Unit.number in
    let old = c.characters in
    let ch = c.in-Ok.c in
    let rest = items form (map number c.in-Some.field-0-1.now) in
    let first = first-of form utf8_bytes number c.args.units.now old.read 0 c.split_at.result.1.now c.in-Some.field-0-1.now ch c.in-Some.item c.split_at.ensures.back c.in-Ok.is c.in-Some.ensures.some in
    record {
      converts = old.invariant.converts;
      stop = stops-character utf8_bytes (length old.text - old.written) ch (items form (drop old.read (map number c.args.units.now))) rest first
          (omega (arith, ap length (utf8_bytes-encode_utf8 ch), length-encode ch, c.len_utf8.ensures.value, c.if-len_utf8-text.true));
    }
