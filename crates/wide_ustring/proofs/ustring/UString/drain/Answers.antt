use Rattle.wide_ustring.proofs.Drains.{drain_in_order, drain_in_reverse, drain_stays}
use Rattle.wide_ustring.proofs.ustring.UString.drain.Goals as goal

pub returns-clause-runs : goal.returns-clause-runs
returns-clause-runs g c = drain_in_order

pub returns-clause-runs_back : goal.returns-clause-runs_back
returns-clause-runs_back g c = drain_in_reverse

pub returns-clause-stays : goal.returns-clause-stays
returns-clause-stays g c = drain_stays _
