use Rattle.std.proofs.Common.{arith}
use Rattle.std.proofs.lemmas.Simd.{Each1-all, Each2-splat}
use Rattle.wide_utf16_to_utf8.proofs.LeadLanes.{backs-are}
use Rattle.wide_utf16_to_utf8.proofs.lead_bytes.last_lanes.Goals as goal

pub nonzero_rem-result : goal.nonzero_rem-result
nonzero_rem-result c = Each2-splat _ _ 8 0x40 (Each1-all _ (λ a. omega arith) _)

pub returns : goal.returns
returns c = backs-are c.args.units c.fits-units.0
