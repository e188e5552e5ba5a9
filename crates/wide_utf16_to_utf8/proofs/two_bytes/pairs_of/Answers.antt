use Rattle.std.proofs.Common.{arith}
use Rattle.wide_utf16_to_utf8.proofs.Shuffles.{pair-of}
use Rattle.wide_utf16_to_utf8.proofs.two_bytes.pairs_of.Goals as goal

pub returns : goal.returns
returns c k within = pair-of c.args.units c.short_lead_lanes.result k within (omega arith) c.requires.narrow (λ j inside. c.short_lead_lanes.ensures j inside (c.requires.narrow j inside))
