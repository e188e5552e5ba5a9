use Rattle.wide_iter.proofs.Replaced.{lossy_last}
use Rattle.wide_iter.proofs.lossy.DecodeUtf16LossyDoubleEndedIterator.next_back.Goals as goal

pub returns-clause-steps : goal.returns-clause-steps
returns-clause-steps g c = record { at = λ rest reports. rw c.replace_fault.ensures (lossy_last _ _ _ (c.next_back.ensures.steps.at rest reports)) }
