use Rattle.wide_forms.specs.EncodingForm.{Utf32}
use Rattle.wide_unit.proofs.Prefixes.{chars-none}
use Rattle.wide_unit.proofs.unit.U32Unit.leading_pairs.Goals as goal

pub returns-clause-text : goal.returns-clause-text
returns-clause-text c = chars-none Utf32 _
