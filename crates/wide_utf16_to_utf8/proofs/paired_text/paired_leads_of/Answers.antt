use Rattle.std.proofs.Common.{arith}
use Rattle.std.proofs.lemmas.Simd.{Each1-all, Each2-splat}
use Rattle.wide_utf16_to_utf8.proofs.LeadLanes.{half-leads-are}
use Rattle.wide_utf16_to_utf8.proofs.paired_text.paired_leads_of.Goals as goal

pub nonzero_rem-top : goal.nonzero_rem-top
nonzero_rem-top c = Each2-splat _ _ 8 0x400 (Each1-all _ (λ a. omega arith) _)

pub nonzero_div-second : goal.nonzero_div-second
nonzero_div-second c = Each2-splat _ _ 8 4 (Each1-all _ (λ a. omega arith) _)

pub nonzero_rem-second : goal.nonzero_rem-second
nonzero_rem-second c = Each2-splat _ _ 8 0x40 (Each1-all _ (λ a. omega arith) _)

pub nonzero_div-high : goal.nonzero_div-high
nonzero_div-high c = Each2-splat _ _ 8 0x100 (Each1-all _ (λ a. omega arith) _)

pub nonzero_rem-third : goal.nonzero_rem-third
nonzero_rem-third c = Each2-splat _ _ 8 4 (Each1-all _ (λ a. omega arith) _)

pub nonzero_div-middle : goal.nonzero_div-middle
nonzero_div-middle c = Each2-splat _ _ 8 0x40 (Each1-all _ (λ a. omega arith) _)

pub nonzero_rem-middle : goal.nonzero_rem-middle
nonzero_rem-middle c = Each2-splat _ _ 8 0x10 (Each1-all _ (λ a. omega arith) _)

pub nonzero_rem-last : goal.nonzero_rem-last
nonzero_rem-last c = Each2-splat _ _ 8 0x40 (Each1-all _ (λ a. omega arith) _)

pub nonzero_div-is_low : goal.nonzero_div-is_low
nonzero_div-is_low c = Each2-splat _ _ 8 0x400 (Each1-all _ (λ a. omega arith) _)

pub nonzero_div-is_surrogate : goal.nonzero_div-is_surrogate
nonzero_div-is_surrogate c = Each2-splat _ _ 8 0x800 (Each1-all _ (λ a. omega arith) _)

pub returns : goal.returns
returns c = half-leads-are c.args.befores c.args.units c.lead_lanes.result c.fits-befores.0 c.fits-units.0 (omega arith) c.lead_lanes.ensures
