use Rattle.wide_search.proofs.Offsets.{few-first}
use Rattle.wide_search.proofs.needle.FewNeedle.first.Goals as goal

pub returns : goal.returns
returns g c = few-first c.args.self.first c.args.self.second
