use Rattle.wide_conversions.proofs.ChunkEnds.{complete-text}
use Rattle.wide_conversions.proofs.utf8_validation.is_utf8.Goals as goal

pub returns-in_default : goal.returns-in_default
returns-in_default c = (λ yes. absurd cc, λ text. absurd (c.in_default.not-Complete (complete-text c.args.text.now _ _ c.first_utf8_chunk.ensures.end text)))
