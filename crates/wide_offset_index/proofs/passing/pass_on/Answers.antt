use Rattle.std.proofs.Common.{◌+◌, arith}
use Rattle.wide_forms.specs.EncodingForm.{Utf16}
use Rattle.wide_forms.specs.Items.{chars}
use Rattle.wide_utfstr.specs.View.{units_seen}
use Rattle.wide_offset_index.proofs.Lengths.{size-take}
use Rattle.wide_offset_index.proofs.Marking.{well-formed, whole-size}
use Rattle.wide_offset_index.proofs.passing.pass_on.Goals as goal

pub overflow_add-at : goal.overflow_add-at
overflow_add-at c =
    let us = units_seen c.args.text in
    omega (arith, c.len_after-len.ensures, c.loop-number.invariant.at, c.len-units.ensures, size-take Utf16 (chars Utf16 us) (c.loop-number.number + 1), whole-size us (well-formed us c.args.text.well_formed))
