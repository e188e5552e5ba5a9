use Rattle.std.proofs.Common.{◌≡◌, ◌+◌, ◌≤◌, arith, ap, subst, sym, ◌∙◌, length, length-take-le, map, take}
use Rattle.std.proofs.lemmas.List.{length-map, length-take}
use Rattle.wide_forms.specs.EncodingForm.{code_units, encode}
use Rattle.wide_forms.specs.Items.{IsWellFormed, chars, items}
use Rattle.widestring_c.specs.Parts.{Converts}
use Rattle.widestring_c.proofs.Buffers.{after_more}
use Rattle.widestring_c.proofs.Converted.{converts-more, run-of}
use Rattle.widestring_c.proofs.Fits.{units-between_two}
use Rattle.widestring_c.proofs.parts.put_unit_runs.Goals as goal

pub runs-preserved : goal.runs-preserved
runs-preserved g c =
    let form = g.C.Unit.form in
    let number = g.C.Unit.number in
    let view = g.D.Unit.number in
    let to = code_units g.D.Unit.form in
    let units = c.args.units.now in
    let old = c.runs in
    let n = c.valid_len-valid.result in
    let put = c.put_recoded-written in
    let rest = c.split_at.result.1.now in
    let window = c.split_at-in-runs.result.0.now in
    let piece = c.split_at-in-runs-2.result.0.now in
    let is = c.split_at-in-runs-2.ensures.front in
    let well : IsWellFormed form (map number piece) = subst (λ us. IsWellFormed form (map number us)) (sym is) c.valid_len-valid.ensures.valid in
    let run = run-of form to number units old.read n rest window piece c.min.result c.split_at.ensures.back c.split_at-in-runs.ensures.front c.valid_len-valid.ensures.within is well in
    let made = encode g.D.Unit.form (chars form (map number piece)) in
    let few : length piece ≡ n = ap length is ∙ length-take-le n window c.valid_len-valid.ensures.within in
    let most : length window ≤ c.min.result = omega (arith, ap length c.split_at-in-runs.ensures.front, length-take c.min.result rest) in
    let fits : put.result ≤ length old.out =
    omega (arith, put.ensures.offset, units-between_two form g.D.Unit.form (map number piece) well, length-map piece number, few, most, c.valid_len-valid.ensures.within, c.min.ensures, old.invariant.within)
    in
    let all = converts-more (items form) (code_units form) to (map number units) old.read n (map view (take old.written old.out)) made old.invariant.converts run in
    record {
      converts = subst (λ us. Converts (items form) (code_units form) to (map number units) (old.read + n) us) (sym (put.ensures.units fits)) all;
      read = omega (arith, all.within, length-map units number);
      within = omega (arith, fits, put.ensures.space);
      space = put.ensures.space ∙ old.invariant.space;
      beyond = after_more c.args.out.now old.out put.new.space (length made) old.written put.result (omega arith) put.ensures.offset old.invariant.beyond put.ensures.beyond;
      chunk = omega (arith, old.invariant.chunk, put.auto.chunk);
    }
