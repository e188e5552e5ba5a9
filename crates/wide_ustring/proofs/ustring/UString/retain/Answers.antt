use Rattle.std.proofs.Common.{arith, of_calls, ◌<◌, length}
use Rattle.wide_ustring.proofs.Filters.{ends, asks}
use Rattle.wide_ustring.proofs.ustring.UString.retain.Goals as goal

pub loop-at-preserved : goal.loop-at-preserved
loop-at-preserved g c =
    let more : c.loop-at.at < length c.self.inside.units.items = omega (arith, c.self.inside.units.ok) in record {
      callable = search of_calls;
      filtered = rw c.from-retained.ensures (asks _ _ _ _ _ _ _ c.loop-at.invariant.filtered _ _ _ more c.index-unit.ensures c.keep.ensures);
      space = c.loop-at.invariant.space;
    }

pub returns-clause-filtered : goal.returns-clause-filtered
returns-clause-filtered g c =
    rw (← c.self.view_is, c.truncate.ensures.items) (ends _ _ _ _ _ _ _ c.loop-at.invariant.filtered (omega (arith, c.self.inside.units.ok)))
