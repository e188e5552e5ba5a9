use Rattle.std.proofs.Common.{refl}
use Rattle.wide_forms.specs.Laws.Policies.{lossy_by-at_char, runs-of_run, characters-of_run, runs-at_fault, lossy_after-none, lossy_after-append, scalars-lossy_by, encode-lossy_by, lossy_by-twice, length-lossy_by}
use Rattle.wide_unit.proofs.laws.lossy_text_by_policy.Goals as goal

pub returns-clause-each : goal.returns-clause-each
returns-clause-each c = λ is. refl

pub returns-clause-parts : goal.returns-clause-parts
returns-clause-parts c = lossy_by-at_char

pub returns-clause-one : goal.returns-clause-one
returns-clause-one c = runs-of_run

pub returns-clause-none : goal.returns-clause-none
returns-clause-none c = characters-of_run

pub returns-clause-on : goal.returns-clause-on
returns-clause-on c = runs-at_fault

pub returns-clause-after_none : goal.returns-clause-after_none
returns-clause-after_none c = lossy_after-none

pub returns-clause-beyond : goal.returns-clause-beyond
returns-clause-beyond c = lossy_after-append

pub returns-clause-scalars : goal.returns-clause-scalars
returns-clause-scalars c = scalars-lossy_by

pub returns-clause-keeps : goal.returns-clause-keeps
returns-clause-keeps c = encode-lossy_by

pub returns-clause-twice : goal.returns-clause-twice
returns-clause-twice c = lossy_by-twice

pub returns-clause-length : goal.returns-clause-length
returns-clause-length c = length-lossy_by
