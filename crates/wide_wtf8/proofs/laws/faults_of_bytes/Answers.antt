use Rattle.wide_wtf8.specs.Laws.{fault-no_text}
use Rattle.wide_wtf8.specs.Prefixes.{longest-before_fault, one-index, text-before_fault, text-without_fault}
use Rattle.wide_wtf8.proofs.laws.faults_of_bytes.Goals as goal

pub returns-clause-none : goal.returns-clause-none
returns-clause-none c = text-without_fault

pub returns-clause-before : goal.returns-clause-before
returns-clause-before c = λ bs index len fault. (text-before_fault bs index len fault, fault-no_text bs index len fault)

pub returns-clause-longest : goal.returns-clause-longest
returns-clause-longest c = longest-before_fault

pub returns-clause-unique : goal.returns-clause-unique
returns-clause-unique c = one-index
