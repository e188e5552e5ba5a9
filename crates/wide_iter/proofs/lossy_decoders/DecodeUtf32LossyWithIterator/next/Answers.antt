use Rattle.wide_iter.specs.Decoder32.{items32_left}
use Rattle.wide_iter.proofs.lossy_decoders.DecodeUtf32LossyWithIterator.next.Goals as goal

pub returns-clause-steps : goal.returns-clause-steps
returns-clause-steps g c = record { at = λ rest reports. c.next.ensures.steps.at (λ u. u) (items32_left rest) (record { at = λ s r t h. h.at rest reports }) }
