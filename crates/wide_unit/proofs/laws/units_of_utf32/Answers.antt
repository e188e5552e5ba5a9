use Rattle.wide_forms.specs.Laws.Utf32.{items32-append, items32-char, items32-fault, length-items32}
use Rattle.wide_unit.proofs.laws.units_of_utf32.Goals as goal

pub returns-clause-items : goal.returns-clause-items
returns-clause-items c = λ u us. (items32-char u us, items32-fault u us)

pub returns-clause-joined : goal.returns-clause-joined
returns-clause-joined c = items32-append

pub returns-clause-count : goal.returns-clause-count
returns-clause-count c = length-items32
