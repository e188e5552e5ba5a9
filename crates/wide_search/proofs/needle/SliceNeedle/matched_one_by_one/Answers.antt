use Rattle.wide_search.proofs.Prefixes.{occurs-if_begins}
use Rattle.wide_search.proofs.needle.SliceNeedle.matched_one_by_one.Goals as goal

pub returns-clause-whole : goal.returns-clause-whole
returns-clause-whole g c = occurs-if_begins c.args.self.units.now c.args.units.now c.split_at.result.0.now c.shared_prefix.result c.split_at.ensures.front c.shared_prefix.ensures
