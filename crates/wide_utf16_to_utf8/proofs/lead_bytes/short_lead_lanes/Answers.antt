use Rattle.std.proofs.Common.{arith}
use Rattle.std.proofs.lemmas.Simd.{Each1-all, Each2-splat}
use Rattle.wide_utf16_to_utf8.proofs.LeadLanes.{narrow-leads-are}
use Rattle.wide_utf16_to_utf8.proofs.lead_bytes.short_lead_lanes.Goals as goal

pub nonzero_rem-last : goal.nonzero_rem-last
nonzero_rem-last c = Each2-splat _ _ 8 0x40 (Each1-all _ (λ a. omega arith) _)

pub nonzero_div-two : goal.nonzero_div-two
nonzero_div-two c = Each2-splat _ _ 8 0x40 (Each1-all _ (λ a. omega arith) _)

pub returns : goal.returns
returns c k within low = narrow-leads-are c.args.units c.fits-units.0 k within low
