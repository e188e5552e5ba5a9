use Rattle.std.proofs.Common.{◌≡◌, ◌+◌, ◌≤◌, arith, ap, subst, sym, ◌∙◌, length, length-take-le, map, take}
use Rattle.std.specs.Str.{IsUtf8, chars as str_chars}
use Rattle.std.proofs.lemmas.List.{length-take}
use Rattle.std.proofs.lemmas.Str.{utf8_valid_len_le}
use Rattle.wide_forms.specs.EncodingForm.{code_units, encode}
use Rattle.wide_forms.specs.Utf8.{utf8_bytes}
use Rattle.wide_conversions.specs.Utf8Items.{utf8_items}
use Rattle.widestring_c.specs.Parts.{Converts}
use Rattle.widestring_c.proofs.Buffers.{after_more}
use Rattle.widestring_c.proofs.Converted.{converts-more, text-of}
use Rattle.widestring_c.proofs.Fits.{units-text}
use Rattle.widestring_c.proofs.parts.put_decoded_runs.Goals as goal

pub runs-preserved : goal.runs-preserved
runs-preserved g c =
    let view = g.D.Unit.number in
    let to = code_units g.D.Unit.form in
    let old = c.runs in
    let n = c.first_utf8_chunk-valid.result.valid in
    let put = c.put_text-written in
    let rest = c.split_at.result.1.now in
    let window = c.split_at-in-runs.result.0.now in
    let piece = c.split_at-in-runs-2.result.0.now in
    let is = c.split_at-in-runs-2.ensures.front in
    let text : IsUtf8 piece = subst IsUtf8 (sym is) c.first_utf8_chunk-valid.ensures.prefix in
    let within : n ≤ length window = omega (arith, c.first_utf8_chunk-valid.ensures.len, utf8_valid_len_le window) in
    let run = text-of to c.args.text.now rest window piece old.read n c.min.result c.split_at.ensures.back c.split_at-in-runs.ensures.front within is text in
    let made = encode g.D.Unit.form (str_chars piece) in
    let few : length piece ≡ n = ap length is ∙ length-take-le n window within in
    let most : length window ≤ c.min.result = omega (arith, ap length c.split_at-in-runs.ensures.front, length-take c.min.result rest) in
    let fits : put.result ≤ length old.units = omega (arith, put.ensures.offset, units-text g.D.Unit.form piece text, few, most, within, c.min.ensures, old.invariant.within) in
    let all = converts-more utf8_items utf8_bytes to c.args.text.now old.read n (map view (take old.written old.units)) made old.invariant.converts run in
    record {
      converts = subst (λ us. Converts utf8_items utf8_bytes to c.args.text.now (old.read + n) us) (sym (put.ensures.units fits)) all;
      read = all.within;
      within = omega (arith, fits, put.ensures.space);
      space = put.ensures.space ∙ old.invariant.space;
      beyond = after_more c.args.units.now old.units put.new.units (length made) old.written put.result (omega arith) put.ensures.offset old.invariant.beyond put.ensures.beyond;
      chunk = omega (arith, old.invariant.chunk, put.auto.chunk);
    }
