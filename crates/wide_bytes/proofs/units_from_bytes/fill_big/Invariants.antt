use Rattle.std.proofs.Common.{◌-◌, ◌≤◌}
use Rattle.wide_bytes.specs.declared.order.BoM.TheVariants.{Big}
use Rattle.wide_bytes.proofs.UnitLists.{AreUnitsOf}
use Rattle.wide_bytes.proofs.units_from_bytes.fill_big.Given as goal

abbrev pub invariant-eights : goal.invariant-eights
invariant-eights l = record {
  within : l.done ≤ l.count;
  units : AreUnitsOf Big l.bytes l.units l.done;
}

abbrev pub decreases-eights : goal.decreases-eights
decreases-eights l = l.count - l.done

abbrev pub invariant-ones : goal.invariant-ones
invariant-ones l = record {
  within : l.done ≤ l.count;
  units : AreUnitsOf Big l.bytes l.units l.done;
}

abbrev pub decreases-ones : goal.decreases-ones
decreases-ones l = l.count - l.done
