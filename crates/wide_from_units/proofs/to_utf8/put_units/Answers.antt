use Rattle.std.proofs.Common.{arith}
use Rattle.wide_from_units.proofs.ScalarTexts.{text-units}
use Rattle.wide_from_units.proofs.to_utf8.put_units.Goals as goal

pub returns-then-bits-lt2048-clause-text : goal.returns-then-bits-lt2048-clause-text
returns-then-bits-lt2048-clause-text c =
    text-units c.args.block.now c.narrow.new.units _ c.narrow.ensures c.requires.scalars (λ k within. (let low = c.requires.bits k (omega (arith, c.requires.whole)) in omega (arith, low, c.requires.below))) c.put_two_bytes.ensures.text

pub returns-else-bits-lt2048-clause-text : goal.returns-else-bits-lt2048-clause-text
returns-else-bits-lt2048-clause-text c =
    text-units c.args.block.now c.narrow.new.units _ c.narrow.ensures c.requires.scalars (λ k within. (let low = c.requires.bits k (omega (arith, c.requires.whole)) in omega (arith, low, c.requires.below))) c.put_three_bytes.ensures.text
