use Rattle.std.specs.Char.{to_ascii_lowercase}
use Rattle.wide_search.proofs.Sides.{occurs-as_read, none-to_stop_as_read}
use Rattle.wide_search.proofs.two_way.find_two_way_in_lower_case.Goals as goal

pub returns-clause-here : goal.returns-clause-here
returns-clause-here g c = λ found. occurs-as_read to_ascii_lowercase g.C.Unit.number c.args.needle.now c.args.units.now c.next_occurrence.result.at (c.next_occurrence.ensures.stop.here found)

pub returns-clause-before : goal.returns-clause-before
returns-clause-before g c =
    none-to_stop_as_read to_ascii_lowercase g.C.Unit.number c.args.needle.now c.args.units.now c.args.from c.next_occurrence.result.at c.requires.before c.next_occurrence.ensures.stop.before
