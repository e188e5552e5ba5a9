use Rattle.std.proofs.lemmas.List.Elements.{All-take}
use Rattle.wide_forms.specs.EncodingForm.{Utf16, IsCodeUnit}
use Rattle.wide_wtf8.specs.Laws.{part-decoded}
use Rattle.wide_wtf8.proofs.Lengths.{all-units}
use Rattle.wide_wtf8.proofs.decoding.decode_part.Goals as goal

pub returns-clause-part : goal.returns-clause-part
returns-clause-part c =
    let e = c.decode_wtf8-step.ensures in
    let units = c.decode_wtf8-step.new.units in
    part-decoded c.args.after_high c.decode_wtf8-step.result.after_high c.args.bytes.now _ c.decode_wtf8-step.result.read e.read (All-take (IsCodeUnit Utf16) c.decode_wtf8-step.result.written units (all-units units c.type_inv.units)) e.bytes e.items
