use Rattle.wide_unit.proofs.Literal.{IsSegmentation16-from, IsSegmentation-from_16, IsSegmentation32-from, IsSegmentation-from_32}
use Rattle.wide_unit.proofs.laws.segmentations_by_form.Goals as goal

pub returns-clause-utf16 : goal.returns-clause-utf16
returns-clause-utf16 c = λ is units in_range. (IsSegmentation16-from is units in_range, IsSegmentation-from_16 is units)

pub returns-clause-utf32 : goal.returns-clause-utf32
returns-clause-utf32 c = λ is units. (IsSegmentation32-from is units, IsSegmentation-from_32 is units)
