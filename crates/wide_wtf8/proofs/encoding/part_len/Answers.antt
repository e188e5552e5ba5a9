use Rattle.std.proofs.Common.{◌∙◌, sym, arith}
use Rattle.wide_wtf8.proofs.Parts.{part-all, part-at, part-before}
use Rattle.wide_wtf8.proofs.encoding.part_len.Goals as goal

pub returns-then-units-most-clause-cut : goal.returns-then-units-most-clause-cut
returns-then-units-most-clause-cut c = part-all c.args.units.now

pub returns-then-is_pair-clause-cut : goal.returns-then-is_pair-clause-cut
returns-then-is_pair-clause-cut c = part-before c.args.units.now c.args.most (omega (arith, c.if-units-most.false)) (sym c.is_pair.ensures ∙ c.if-is_pair.true)

pub returns-clause-cut : goal.returns-clause-cut
returns-clause-cut c = part-at c.args.units.now c.args.most (omega (arith, c.if-units-most.false)) (sym c.is_pair.ensures ∙ c.if-is_pair.false)
