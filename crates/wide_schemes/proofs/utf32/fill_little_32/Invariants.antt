use Rattle.wide_bytes.specs.declared.order.BoM.TheVariants.{Little}
use Rattle.wide_schemes.proofs.Units32.{AreUnits32Of}
use Rattle.wide_schemes.proofs.utf32.fill_little_32.Given as goal

abbrev pub invariant-loop-k : goal.invariant-loop-k
invariant-loop-k l = AreUnits32Of Little l.bytes l.units l.k
