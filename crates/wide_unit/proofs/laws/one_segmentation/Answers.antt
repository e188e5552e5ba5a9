use Rattle.std.proofs.Common.{sym}
use Rattle.wide_forms.specs.Items.{items-segment}
use Rattle.wide_forms.specs.Laws.Items.{items-unique}
use Rattle.wide_unit.proofs.laws.one_segmentation.Goals as goal

pub returns-clause-exists : goal.returns-clause-exists
returns-clause-exists c = items-segment

pub returns-clause-unique : goal.returns-clause-unique
returns-clause-unique c = λ form units other seg. sym (items-unique form other units seg)
