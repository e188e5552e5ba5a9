use Rattle.wide_search.proofs.Prefixes.{occurs-if_shared}
use Rattle.wide_search.proofs.needle.SliceNeedle.matched_in_blocks.Goals as goal

pub returns-clause-whole : goal.returns-clause-whole
returns-clause-whole g c = occurs-if_shared c.args.self.units.now c.args.units.now c.common_prefix.result c.common_prefix.ensures
