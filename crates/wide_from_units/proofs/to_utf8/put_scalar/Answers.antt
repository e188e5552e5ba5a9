use Rattle.std.proofs.Common.{arith}
use Rattle.wide_from_units.proofs.ScalarTexts.{scalar-len, scalar-stored}
use Rattle.wide_from_units.proofs.to_utf8.put_scalar.Goals as goal

pub returns-clause-text : goal.returns-clause-text
returns-clause-text c = scalar-stored c.args.out.now c.put_u32_le.new.out c.args.at c.args.code c.word_of.result c.len_of.result (omega (arith, c.requires.space)) c.requires.below c.word_of.ensures c.len_of.ensures c.put_u32_le.ensures

pub returns-clause-high : goal.returns-clause-high
returns-clause-high c = omega (arith, scalar-len c.len_of.ensures)
