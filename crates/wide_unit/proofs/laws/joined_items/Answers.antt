use Rattle.wide_forms.specs.Laws.Ends.{items-append_left, items-append_right}
use Rattle.wide_unit.proofs.laws.joined_items.Goals as goal

pub returns-clause-after : goal.returns-clause-after
returns-clause-after c = items-append_left

pub returns-clause-before : goal.returns-clause-before
returns-clause-before c = items-append_right
