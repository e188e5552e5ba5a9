use Rattle.wide_unit.proofs.Faults.{first_fault-split, first_fault-item, IsFirstFault-of, well_formed-first_fault}
use Rattle.wide_unit.proofs.laws.first_faults.Goals as goal

pub returns-clause-after_text : goal.returns-clause-after_text
returns-clause-after_text c = λ form us index item u. (λ e. first_fault-split form us index item u e, λ parts. IsFirstFault-of form us parts.0 parts.1 index item u parts.2 parts.3 parts.4)

pub returns-clause-counted : goal.returns-clause-counted
returns-clause-counted c = first_fault-item

pub returns-clause-none : goal.returns-clause-none
returns-clause-none c = λ form us. well_formed-first_fault form us
