use Rattle.wide_forms.specs.Laws.Lossy.{scalars-lossy, encode-lossy, well_formed-lossy, lossy-twice, length-lossy}
use Rattle.wide_unit.proofs.Faults.{first_fault-prefix, lossy-after_prefix}
use Rattle.wide_unit.proofs.laws.lossy_text.Goals as goal

pub returns-clause-scalars : goal.returns-clause-scalars
returns-clause-scalars c = scalars-lossy

pub returns-clause-keeps : goal.returns-clause-keeps
returns-clause-keeps c = encode-lossy

pub returns-clause-well_formed : goal.returns-clause-well_formed
returns-clause-well_formed c = well_formed-lossy

pub returns-clause-once : goal.returns-clause-once
returns-clause-once c = lossy-twice

pub returns-clause-length : goal.returns-clause-length
returns-clause-length c = length-lossy

pub returns-clause-prefix : goal.returns-clause-prefix
returns-clause-prefix c = λ form us index item u fault. (first_fault-prefix form us index item u fault, lossy-after_prefix form us index item u fault)
