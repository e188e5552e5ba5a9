use Rattle.std.proofs.Common.{◌≡◌, ◌+◌, ◌≤◌, arith, ap, subst, sym, ◌∙◌, length, length-take-le, map, take}
use Rattle.std.proofs.lemmas.List.{length-map, length-take}
use Rattle.wide_forms.specs.EncodingForm.{code_units}
use Rattle.wide_forms.specs.Items.{IsWellFormed, chars, items}
use Rattle.wide_forms.specs.Utf8.{utf8, utf8_bytes}
use Rattle.widestring_c.specs.Parts.{Converts}
use Rattle.widestring_c.proofs.Buffers.{after_more}
use Rattle.widestring_c.proofs.Converted.{converts-more, run-of}
use Rattle.widestring_c.proofs.Fits.{bytes-well_formed}
use Rattle.widestring_c.proofs.parts.put_utf8_runs.Goals as goal

pub runs-preserved : goal.runs-preserved
runs-preserved g c =
    let form = g.C.Unit.form in
    let number = g.C.Unit.number in
    let units = c.args.units.now in
    let old = c.runs in
    let n = c.valid_len-valid.result in
    let put = c.put_chunks-written in
    let rest = c.split_at.result.1.now in
    let window = c.split_at-in-runs.result.0.now in
    let piece = c.split_at-in-runs-2.result.0.now in
    let is = c.split_at-in-runs-2.ensures.front in
    let well : IsWellFormed form (map number piece) = subst (λ us. IsWellFormed form (map number us)) (sym is) c.valid_len-valid.ensures.valid in
    let run = run-of form utf8_bytes number units old.read n rest window piece c.min.result c.split_at.ensures.back c.split_at-in-runs.ensures.front c.valid_len-valid.ensures.within is well in
    let made = utf8 (chars form (map number piece)) in
    let few : length piece ≡ n = ap length is ∙ length-take-le n window c.valid_len-valid.ensures.within in
    let most : length window ≤ c.min.result = omega (arith, ap length c.split_at-in-runs.ensures.front, length-take c.min.result rest) in
    let fits : put.result ≤ length old.text =
    omega (arith, put.ensures.offset, bytes-well_formed form (map number piece) well, length-map piece number, few, most, c.valid_len-valid.ensures.within, c.min.ensures, old.invariant.within)
    in
    let all = converts-more (items form) (code_units form) utf8_bytes (map number units) old.read n (take old.written old.text) made old.invariant.converts run in
    record {
      converts = subst (λ bs. Converts (items form) (code_units form) utf8_bytes (map number units) (old.read + n) bs) (sym (put.ensures.text fits)) all;
      read = omega (arith, all.within, length-map units number);
      within = omega (arith, fits, put.ensures.space);
      space = put.ensures.space ∙ old.invariant.space;
      beyond = after_more c.args.text.now old.text put.new.text (length made) old.written put.result (omega arith) put.ensures.offset old.invariant.beyond put.ensures.beyond;
      chunk = omega (arith, old.invariant.chunk, put.auto.chunk);
    }
