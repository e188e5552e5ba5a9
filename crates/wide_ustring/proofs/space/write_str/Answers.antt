use Rattle.std.proofs.Common.{◌≡◌, ◌∙◌, ap, arith, length, sym}
use Rattle.std.specs.Str.{chars}
use Rattle.wide_forms.specs.EncodingForm.{encode}
use Rattle.wide_ustring.proofs.Pushed.{all_written}
use Rattle.wide_ustring.proofs.space.write_str.Goals as goal

pub returns : goal.returns
returns g c =
    let form = g.C.Unit.form in
    let e = c.from_utf8_prefix.ensures in
    let written = c.from_utf8_prefix.new.units in
    let bytes = c.as_bytes.result.now in
    let same : bytes ≡ c.args.text.now = c.as_bytes.ensures.value in
    let long : length written ≡ length (encode form (chars bytes)) = c.from_utf8_prefix.auto.units ∙ c.requires ∙ ap (λ bs. length (encode form (chars bs))) (sym same) in
    let all = e.whole (omega (arith, long, c.from_utf8_prefix.auto.units)) in
    all_written form g.C.Unit.number bytes written c.from_utf8_prefix.result.read c.from_utf8_prefix.result.written long all e.written e.units ∙ ap (λ bs. encode form (chars bs)) same
