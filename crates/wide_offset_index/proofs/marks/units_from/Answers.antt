use Rattle.std.proofs.Common.{arith, ◌*◌}
use Rattle.wide_forms.specs.EncodingForm.{Utf16}
use Rattle.wide_forms.specs.Items.{chars}
use Rattle.wide_utfstr.specs.View.{units_seen}
use Rattle.wide_offset_index.proofs.Lengths.{size-take}
use Rattle.wide_offset_index.proofs.Marking.{well-formed, whole-size}
use Rattle.wide_offset_index.proofs.marks.units_from.Goals as goal

pub overflow_sub-result : goal.overflow_sub-result
overflow_sub-result c =
    let us = units_seen c.args.text in
    omega (arith, c.seek-at.ensures.at, c.len.ensures, size-take Utf16 (chars Utf16 us) (64 * c.args.number), whole-size us (well-formed us c.args.text.well_formed))

pub returns : goal.returns
returns c =
    let us = units_seen c.args.text in
    omega (arith, c.seek-at.ensures.at, c.len.ensures, whole-size us (well-formed us c.args.text.well_formed))
