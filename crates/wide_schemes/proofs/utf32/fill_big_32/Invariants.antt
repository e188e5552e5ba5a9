use Rattle.std.proofs.Common.{◌-◌, ◌≤◌}
use Rattle.wide_bytes.specs.declared.order.BoM.TheVariants.{Big}
use Rattle.wide_schemes.proofs.Units32.{AreUnits32Of}
use Rattle.wide_schemes.proofs.utf32.fill_big_32.Given as goal

abbrev pub invariant-fours : goal.invariant-fours
invariant-fours l = record {
  within : l.done ≤ l.count;
  units : AreUnits32Of Big l.bytes l.units l.done;
}

abbrev pub decreases-fours : goal.decreases-fours
decreases-fours l = l.count - l.done

abbrev pub invariant-ones : goal.invariant-ones
invariant-ones l = record {
  within : l.done ≤ l.count;
  units : AreUnits32Of Big l.bytes l.units l.done;
}

abbrev pub decreases-ones : goal.decreases-ones
decreases-ones l = l.count - l.done
