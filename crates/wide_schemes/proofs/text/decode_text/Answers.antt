use Rattle.std.proofs.Common.{◌≡◌, ◌+◌, ◌-◌, ◌++◌, length, length-drop, length-take, take, drop, ap, ◌∙◌, subst, arith}
use borrow.Rule.Slice.PartMut.{put_mid}
use Rattle.std.proofs.lemmas.List.{take_all}
use Rattle.std.specs.Str.{chars as str_chars}
use Rattle.wide_forms.specs.EncodingForm.{Utf16, encode}
use Rattle.std.proofs.lemmas.List.{map-id}
use Rattle.wide_schemes.specs.Decoded.{IsTextPrefix}
use Rattle.wide_schemes.proofs.Puts.{put-at, put-length}
use Rattle.wide_schemes.proofs.TextPrefixes.{text_prefix-then}
use Rattle.wide_schemes.proofs.text.decode_text.Goals as goal

pub loop-read-preserved : goal.loop-read-preserved
loop-read-preserved c =
    let n = c.loop-read.read in
    let w = c.loop-read.written in
    let text = c.args.text.now in
    let units = c.loop-read.units in
    let step = c.from_utf8_prefix-step in
    let rest : take (length text - n) (drop n text) ≡ drop n text = take_all (length text - n) (drop n text) (omega (arith, length-drop n text)) in
    let one : IsTextPrefix (drop n text) step.result.read (take step.result.written step.new.units) = subst (λ xs. IsTextPrefix xs step.result.read (take step.result.written step.new.units)) rest (record { units = step.ensures.units ∙ ap (λ us. us ++ encode Utf16 (str_chars (drop step.result.read (take (length text - n) (drop n text))))) (map-id (take step.result.written step.new.units)); rest = step.ensures.rest }) in
    let same : take w units ++ take step.result.written step.new.units ≡ take (w + step.result.written) (put_mid w (length units - w) units step.new.units) = put-at units step.new.units w step.result.written (length units - w) c.loop-read.invariant.space step.ensures.written in
    let part : length step.new.units ≡ length units - w = omega (arith, step.auto.units, length-take (length units - w) (drop w units), length-drop w units) in
    let long : length (put_mid w (length units - w) units step.new.units) ≡ length units = put-length units step.new.units w (length units - w) (omega (arith, c.loop-read.invariant.space)) part in
    record {
      within = omega (arith, step.ensures.read, ap length rest, length-drop n text, c.loop-read.invariant.within);
      space = omega (arith, step.ensures.written, part, long, c.loop-read.invariant.space);
      prefix = subst (IsTextPrefix text (n + step.result.read)) same (text_prefix-then text (take w units) (take step.result.written step.new.units) n step.result.read c.loop-read.invariant.prefix one);
    }
