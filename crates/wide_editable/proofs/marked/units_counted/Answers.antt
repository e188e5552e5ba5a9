use Rattle.std.proofs.Common.{ap, arith, length, subst}
use Rattle.std.proofs.lemmas.List.{map-id}
use Rattle.wide_forms.specs.EncodingForm.{Utf16}
use Rattle.wide_forms.specs.Items.{chars}
use Rattle.wide_forms.specs.Laws.Offsets.{offset-IsOffsetOf}
use Rattle.wide_forms.specs.Offsets.{IsOffsetOf}
use Rattle.wide_editable.specs.Indices.{first_index}
use Rattle.wide_offset_index.proofs.Lengths.{size-cut}
use Rattle.wide_offset_index.proofs.Marking.{well-formed, whole-size}
use Rattle.wide_offset_index.proofs.Offsets.{found_some}
use Rattle.wide_editable.proofs.marked.units_counted.Goals as goal

pub returns-in-Some : goal.returns-in-Some
returns-in-Some c =
    let us = c.args.string.now.units in
    let i = c.in-SplitOff.field-0 in
    let well = well-formed us c.string_facts.ensures.well_formed in
    let found = found_some Utf16 us (first_index c.args.edit) c.args.start c.in-Some.at c.requires c.in-Some.is in
    let offset = subst (λ edit. IsOffsetOf Utf16 us (first_index edit) c.in-Some.at) c.in-SplitOff.is found.offset in
    rw c.in-SplitOff.is
    (omega (arith, c.unit_count-len.ensures.count, ap length (map-id us), whole-size us well, size-cut Utf16 (chars Utf16 us) i, offset-IsOffsetOf Utf16 us well i c.in-Some.at offset))
