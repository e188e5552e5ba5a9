use Rattle.wide_search.proofs.Lowercase.{ends-shared}
use Rattle.wide_search.proofs.ignoring_case.ends_with_ignore_ascii_case.Goals as goal

pub returns : goal.returns
returns g c = ends-shared g.C.Unit.number c.args.needle.now c.args.units.now c.common_prefix_ignore_ascii_case.result c.split_at.result.1.now c.if-units-needle.false c.split_at.ensures.back c.common_prefix_ignore_ascii_case.ensures
