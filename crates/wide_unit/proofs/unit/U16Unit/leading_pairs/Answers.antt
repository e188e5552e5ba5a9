use Rattle.wide_unit.proofs.Alone.{same-begin}
use Rattle.wide_unit.proofs.unit.U16Unit.leading_pairs.Goals as goal

pub returns-clause-text : goal.returns-clause-text
returns-clause-text c = same-begin c.args.units.now _ c.leading_pairs.ensures.text
