use Rattle.std.proofs.Common.{◌≡◌, ap, arith}
use Rattle.std.proofs.lemmas.List.{take_all}
use Rattle.wide_forms.specs.EncodingForm.{Utf16}
use Rattle.wide_forms.specs.Items.{chars}
use Rattle.wide_offset_index.specs.Marks.{offset}
use Rattle.wide_offset_index.proofs.Lengths.{size}
use Rattle.wide_offset_index.proofs.Marking.{well-formed, whole-size}
use Rattle.wide_offset_index.proofs.Substrings.{stated}
use Rattle.wide_editable.proofs.ranges.range_at_end.Goals as goal

pub returns-clause-found : goal.returns-clause-found
returns-clause-found c =
    let us = c.args.string.now.units in
    let well = well-formed us c.string_facts.ensures.well_formed in
    let cs = chars Utf16 us in
    let end : c.len-len.result ≡ offset cs c.args.count = omega (arith, c.len-len.ensures, whole-size us well, ap (size Utf16) (take_all c.args.count cs (omega (arith, c.requires)))) in
    stated us well c.args.count c.args.count c.len-len.result c.len-len.result (omega arith) end end (omega (arith, c.requires))
