use Rattle.wide_iter.proofs.Replaced.{lossy_first}
use Rattle.wide_iter.proofs.lossy.DecodeUtf32LossyIterator.next.Goals as goal

pub returns-clause-steps : goal.returns-clause-steps
returns-clause-steps g c = record { at = λ rest reports. rw c.replace_fault.ensures (lossy_first _ _ _ (c.next.ensures.steps.at rest reports)) }
