use Rattle.std.proofs.Common.{arith}
use Rattle.wide_forms.specs.EncodingForm.{Utf16}
use Rattle.wide_forms.specs.Items.{chars}
use Rattle.wide_edit.specs.Step.{step}
use Rattle.wide_offset_index.proofs.Marking.{few-characters}
use Rattle.wide_editable.proofs.marked.Marked16.prepare_counted.Goals as goal

pub returns-clause-ready : goal.returns-clause-ready
returns-clause-ready c =
    let s = c.prepare16.new.string in
    let cs = (step (chars Utf16 s.units) c.args.edit).0 in
    let ready = c.in_ok-space.ensures.ready in
    record {
      units = ready;
      marks = omega (arith, ready, few-characters Utf16 cs, c.capacity-most.ensures.value, c.len.ensures, c.saturating_sub.ensures, c.in_ok-reserve.ensures.ok, c.reserve.ensures.len);
    }
