use Rattle.std.proofs.Common.{ap, sym, ◌∙◌}
use Rattle.std.specs.List.{sum_by}
use Rattle.std.specs.Str.{chars}
use Rattle.wide_unit.specs.LeadingByte.{begins, units_begun}
use Rattle.wide_unit.proofs.Lengths.{length-utf32, length-encode_utf32}
use Rattle.wide_unit.proofs.utf8.length_as_utf32.Goals as goal

pub returns-clause-characters : goal.returns-clause-characters
returns-clause-characters c = c.count_all.ensures ∙ ap (sum_by (λ b. begins (units_begun b))) c.as_bytes.ensures.value ∙ length-utf32 c.args.text.now c.utf8.text

pub returns-clause-units : goal.returns-clause-units
returns-clause-units c = returns-clause-characters c ∙ sym (length-encode_utf32 (chars c.args.text.now))
