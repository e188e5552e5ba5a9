use Rattle.std.proofs.Common.{arith}
use Rattle.std.proofs.lemmas.Simd.{Each1-all, Each2-splat}
use Rattle.wide_utf16_to_utf8.proofs.Tops.{tops-are}
use Rattle.wide_utf16_to_utf8.proofs.to_utf8.bits_of_tops.Goals as goal

pub nonzero_div-result : goal.nonzero_div-result
nonzero_div-result c = Each2-splat _ _ 16 0x400 (Each1-all _ (λ a. omega arith) _)

pub returns : goal.returns
returns c = tops-are c.args.top c.args.units.now c.requires
