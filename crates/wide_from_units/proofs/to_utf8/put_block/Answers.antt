use Rattle.std.proofs.Common.{arith}
use Rattle.wide_from_units.proofs.ScalarTexts.{text-ascii}
use Rattle.wide_from_units.proofs.to_utf8.put_block.Goals as goal

pub returns-then-bits-lt128-clause-text : goal.returns-then-bits-lt128-clause-text
returns-then-bits-lt128-clause-text c =
    text-ascii c.args.block.now c.narrow.new.units _ c.narrow.ensures c.requires.scalars (λ k within. (let low = c.bits_of-bits.ensures k (omega (arith, c.requires.whole)) in omega (arith, low))) c.put_ascii.ensures
