use Rattle.wide_forms.specs.Laws.Items.{length-items16}
use Rattle.wide_unit.proofs.laws.items_of_utf16.Goals as goal

pub returns : goal.returns
returns c = length-items16
