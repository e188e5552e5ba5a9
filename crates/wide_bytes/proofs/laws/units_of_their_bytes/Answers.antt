use Rattle.wide_bytes.proofs.WholeBytes.{none-left, whole-units}
use Rattle.wide_bytes.proofs.laws.units_of_their_bytes.Goals as goal

pub returns-clause-units : goal.returns-clause-units
returns-clause-units c = whole-units c.args.order c.args.units.now

pub returns-clause-none_left : goal.returns-clause-none_left
returns-clause-none_left c = none-left c.args.order c.args.units.now
