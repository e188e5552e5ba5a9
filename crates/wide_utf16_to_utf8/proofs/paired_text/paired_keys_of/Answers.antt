use Rattle.std.proofs.Common.{arith}
use Rattle.std.proofs.lemmas.Simd.{Each1-all, Each2-splat}
use Rattle.wide_utf16_to_utf8.proofs.LeadLanes.{half-keys-at}
use Rattle.wide_utf16_to_utf8.proofs.paired_text.paired_keys_of.Goals as goal

pub nonzero_div-is_surrogate : goal.nonzero_div-is_surrogate
nonzero_div-is_surrogate c = Each2-splat _ _ 8 0x800 (Each1-all _ (λ a. omega arith) _)

pub returns : goal.returns
returns c k within = half-keys-at 8 c.args.units k c.fits-units.0 within
