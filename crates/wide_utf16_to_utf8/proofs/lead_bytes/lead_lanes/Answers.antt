use Rattle.std.proofs.Common.{arith, w16}
use Rattle.std.proofs.lemmas.Simd.{Each1-all, Each2-splat, below_from_Fits}
use Rattle.wide_utf16_to_utf8.proofs.LeadLanes.{leads-are}
use Rattle.wide_utf16_to_utf8.proofs.lead_bytes.lead_lanes.Goals as goal

pub nonzero_div-middle : goal.nonzero_div-middle
nonzero_div-middle c = Each2-splat _ _ 8 0x40 (Each1-all _ (λ a. omega arith) _)

pub nonzero_rem-middle : goal.nonzero_rem-middle
nonzero_rem-middle c = Each2-splat _ _ 8 0x40 (Each1-all _ (λ a. omega arith) _)

pub nonzero_div-three : goal.nonzero_div-three
nonzero_div-three c = Each2-splat _ _ 8 0x1000 (Each1-all _ (λ a. omega arith) _)

pub returns : goal.returns
returns c = leads-are c.args.units c.short_lead_lanes.result c.fits-units.0 (omega arith) (below_from_Fits w16 c.args.units c.fits-units.1) c.short_lead_lanes.ensures
