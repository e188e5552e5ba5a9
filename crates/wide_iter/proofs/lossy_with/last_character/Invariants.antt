use Rattle.std.specs.Prelude.{◌≤◌}
use Rattle.std.specs.Iterator.{size}
use Rattle.wide_iter.specs.Source.{source_count}
use Rattle.wide_iter.specs.LossyWith.{CanAskAll}
use Rattle.wide_iter.proofs.FaultRuns.{PassedLast}
use Rattle.wide_iter.proofs.lossy_with.last_character.Given as goal

abbrev pub invariant-loop-item : goal.invariant-loop-item
invariant-loop-item g l = record {
  asked : CanAskAll g.D.DoubleEndedIterator.can_next_back g.D.Iterator.remaining l.items;
  fewer : size (source_count g.D.Iterator.remaining l.items) ≤ size (source_count g.D.Iterator.remaining l.initial.items);
  passed : PassedLast g.D.DoubleEndedIterator.next_back_gives l.initial.items l.items;
}

abbrev pub decreases-loop-item : goal.decreases-loop-item
decreases-loop-item g l = size (source_count g.D.Iterator.remaining l.items)
