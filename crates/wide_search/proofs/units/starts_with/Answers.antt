use Rattle.wide_search.proofs.Offsets.{begins-reported}
use Rattle.wide_search.proofs.units.starts_with.Goals as goal

pub returns : goal.returns
returns g c = begins-reported c.args.needle.now c.args.units.now c.split_at.result.0.now c.split_at.ensures.front c.same_units.ensures
