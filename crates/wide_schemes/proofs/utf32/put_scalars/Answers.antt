use Rattle.std.proofs.Common.{◌≡◌, ℕ, ◌+◌, ◌-◌, ◌++◌, ◌∙◌, length, length-drop, length-take, map, take, drop, ap, sym, subst, arith}
use borrow.Rule.Slice.PartMut.{put_mid}
use Rattle.std.specs.Char.{IsScalar}
use Rattle.std.specs.List.{All}
use Rattle.std.proofs.lemmas.List.{map-id, take_rest}
use Rattle.std.proofs.lemmas.List.Elements.{All-drop}
use Rattle.wide_forms.specs.EncodingForm.{Utf16, Utf32, encode}
use Rattle.wide_forms.specs.Items.{IsWellFormed, chars}
use Rattle.wide_schemes.proofs.Puts.{put-at, put-length}
use Rattle.wide_schemes.proofs.Scalars32.{encode-prefix, encode-then, well_formed32}
use Rattle.wide_schemes.proofs.utf32.put_scalars.Goals as goal

pub between_forms_prefix-step-requires-clause-well_formed : goal.between_forms_prefix-step-requires-clause-well_formed
between_forms_prefix-step-requires-clause-well_formed c =
    let codes = c.args.codes.now in
    let n = c.prefixes.read in
    let scalars : All IsScalar (take (length codes - n) (drop n codes)) = subst (All IsScalar) (sym (take_rest codes n)) (All-drop IsScalar n codes c.requires) in
    subst (IsWellFormed Utf32) (sym (map-id (take (length codes - n) (drop n codes)))) (well_formed32 (take (length codes - n) (drop n codes)) scalars)

pub prefixes-preserved : goal.prefixes-preserved
prefixes-preserved c =
    let n = c.prefixes.read in
    let w = c.prefixes.written in
    let codes = c.args.codes.now in
    let units = c.prefixes.units in
    let step = c.between_forms_prefix-step in
    let m = step.result.read in
    let us = take step.result.written step.new.out in
    let rest = take (length codes - n) (drop n codes) in
    let whole : rest ≡ drop n codes = take_rest codes n in
    let scalars : All IsScalar rest = subst (All IsScalar) (sym whole) (All-drop IsScalar n codes c.requires) in
    let made : encode Utf16 (chars Utf32 rest) ≡ us ++ encode Utf16 (chars Utf32 (drop m rest)) =
    ap (λ xs. encode Utf16 (chars Utf32 xs)) (sym (map-id rest)) ∙ step.ensures.units ∙ ap (λ xs. xs ++ encode Utf16 (chars Utf32 (map (λ (u : ℕ). u) (drop m rest)))) (map-id us) ∙ ap (λ xs. us ++ encode Utf16 (chars Utf32 xs)) (map-id (drop m rest)) in
    let one : us ≡ encode Utf16 (take m (drop n codes)) = encode-prefix rest us m scalars made ∙ ap (λ xs. encode Utf16 (take m xs)) whole in
    let same : take w units ++ us ≡ take (w + step.result.written) (put_mid w (length units - w) units step.new.out) = put-at units step.new.out w step.result.written (length units - w) c.prefixes.invariant.space step.ensures.written in
    let part : length step.new.out ≡ length units - w = omega (arith, step.auto.out, length-take (length units - w) (drop w units), length-drop w units) in
    let long : length (put_mid w (length units - w) units step.new.out) ≡ length units = put-length units step.new.out w (length units - w) (omega (arith, c.prefixes.invariant.space)) part in
    record {
      within = omega (arith, step.ensures.read, ap length whole, length-drop n codes, c.prefixes.invariant.within);
      space = omega (arith, step.ensures.written, part, long, c.prefixes.invariant.space);
      text = sym same ∙ encode-then codes (take w units) us n m c.prefixes.invariant.text one;
    }
