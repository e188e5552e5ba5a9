use Rattle.wide_search.proofs.Offsets.{ends-reported}
use Rattle.wide_search.proofs.units.ends_with.Goals as goal

pub returns : goal.returns
returns g c = ends-reported c.args.needle.now c.args.units.now c.split_at.result.1.now c.split_at.ensures.back c.same_units.ensures
