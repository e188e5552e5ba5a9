use Rattle.wide_iter.specs.Decoder16.{items_left}
use Rattle.wide_iter.proofs.lossy_decoders.DecodeUtf16LossyWithIterator.next.Goals as goal

pub returns-clause-steps : goal.returns-clause-steps
returns-clause-steps g c = record { at = λ rest reports. c.next.ensures.steps.at (λ u. u) (items_left rest) (record { at = λ s r t h. h.at rest reports }) }
