use Rattle.std.proofs.Common.{ap, ◌∙◌}
use Rattle.std.specs.List.{sum_by}
use Rattle.wide_unit.specs.LeadingByte.{units_begun}
use Rattle.wide_unit.proofs.Lengths.{length-utf16}
use Rattle.wide_unit.proofs.utf8.length_as_utf16.Goals as goal

pub returns : goal.returns
returns c = c.count_all.ensures ∙ ap (sum_by units_begun) c.as_bytes.ensures.value ∙ length-utf16 c.args.text.now c.utf8.text
