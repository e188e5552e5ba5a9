use Rattle.wide_search.proofs.Lowercase.{begins-shared}
use Rattle.wide_search.proofs.ignoring_case.starts_with_ignore_ascii_case.Goals as goal

pub returns : goal.returns
returns g c = begins-shared g.C.Unit.number c.args.needle.now c.args.units.now c.common_prefix_ignore_ascii_case.result c.common_prefix_ignore_ascii_case.ensures
