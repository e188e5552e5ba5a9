use Rattle.wide_forms.specs.EncodingForm.{Utf32}
use Rattle.wide_forms.specs.UnitBytes.{little_bytes}
use Rattle.wide_from_units.proofs.StoredBytes.{AreStored}
use Rattle.wide_from_units.proofs.unit_bytes.put_little_32.Given as goal

abbrev pub invariant-loop-k : goal.invariant-loop-k
invariant-loop-k l = AreStored (little_bytes Utf32) 4 l.units l.fn.bytes l.bytes l.k
