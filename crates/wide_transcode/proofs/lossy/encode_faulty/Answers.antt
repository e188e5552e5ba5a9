use Rattle.std.proofs.Common.{ap, ◌∙◌, arith, length, take}
use Rattle.std.proofs.lemmas.List.{take_all}
use Rattle.wide_forms.specs.EncodingForm.{Utf16, encode}
use Rattle.wide_forms.specs.Items.{items}
use Rattle.wide_forms.specs.Lossy.{lossy_after}
use Rattle.wide_transcode.proofs.Certain.{lossy-written}
use Rattle.wide_transcode.proofs.lossy.encode_faulty.Goals as goal

pub returns-clause-text : goal.returns-clause-text
returns-clause-text c =
    let us = c.args.units.now in
    let put = c.lossy_prefix_16-progress in
    let all = ap (λ n. take n us) (put.ensures.all c.requires.spare) ∙ take_all (length us) us (omega arith) in
    let text = put.ensures.text ∙ ap (λ us. encode Utf16 (lossy_after c.args.policy c.args.after_fault (items Utf16 us))) all in
    lossy-written c.args.policy c.args.after_fault us (take put.result.written put.new.text) c.checked_utf16_to_utf8.new.text c.checked_utf16_to_utf8.result c.unwrap_or.result text c.checked_utf16_to_utf8.ensures.fault c.checked_utf16_to_utf8.ensures.text c.unwrap_or.ensures
