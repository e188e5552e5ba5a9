use Rattle.wide_bytes.specs.declared.order.BoM.TheVariants.{Little}
use Rattle.wide_bytes.proofs.UnitLists.{AreUnitsOf}
use Rattle.wide_bytes.proofs.units_from_bytes.fill_little.Given as goal

abbrev pub invariant-loop-k : goal.invariant-loop-k
invariant-loop-k l = AreUnitsOf Little l.bytes l.units l.k
