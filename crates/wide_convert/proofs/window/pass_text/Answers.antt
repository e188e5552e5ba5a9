use Rattle.std.proofs.Common.{◌≡◌, ◌<◌, length, take, map, sym, ap, ◌∙◌, subst}
use Rattle.wide_forms.specs.EncodingForm.{Utf16}
use Rattle.wide_forms.specs.Segmentation.{Char}
use Rattle.wide_unit.specs.CodePoints.{code_points}
use Rattle.std.proofs.lemmas.List.{length-map}
use Rattle.wide_convert.specs.Positions.{counted}
use Rattle.wide_convert.proofs.Encoded.{read-whole}
use Rattle.wide_convert.proofs.Passing.{fault-chars, length-codes, no-faults, text-chars}
use Rattle.wide_convert.proofs.window.pass_text.Goals as goal

pub returns-clause-passes : goal.returns-clause-passes
returns-clause-passes c =
    let us = take c.decode-step.result.written c.decode-step.new.units in
    let cs = code_points Utf16 us in
    let e = c.after-reading.ensures in
    let count : c.item_count-items.result ≡ length (map Char cs) = c.item_count-items.ensures ∙ sym (length-codes us) in
    let codes : c.item_count-items.result ≡ length cs = count ∙ length-map cs (λ x. Char x) in
    record {
      items = c.decode-step.ensures.items;
      text = sym (text-chars c.args.reading.now.policy c.args.reading.now.after_fault cs);
      fault = fault-chars c.args.reading.now.after_fault c.is_after_fault-reading.result cs (λ none. c.is_after_fault-reading.ensures.same (codes ∙ none)) (λ some. c.is_after_fault-reading.ensures.other (subst (λ n. 0 < n) (sym codes) some));
      moved = record {
        after_bytes = e.bytes;
        after_items = e.items ∙ ap (counted c.args.reading.now.position.items) count;
        after_faults = e.faults ∙ ap (counted c.args.reading.now.position.faults) (sym (no-faults cs));
      };
      well_formed = c.decode-step.ensures.well_formed;
      whole = read-whole c.args.layout c.args.bytes.now us c.decode-step.result.read c.decode-step.ensures.read c.decode-step.ensures.bytes;
    }
