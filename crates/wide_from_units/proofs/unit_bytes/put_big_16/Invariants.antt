use Rattle.wide_forms.specs.EncodingForm.{Utf16}
use Rattle.wide_forms.specs.UnitBytes.{big_bytes}
use Rattle.wide_from_units.proofs.StoredBytes.{AreStored}
use Rattle.wide_from_units.proofs.unit_bytes.put_big_16.Given as goal

abbrev pub invariant-loop-k : goal.invariant-loop-k
invariant-loop-k l = AreStored (big_bytes Utf16) 2 l.units l.fn.bytes l.bytes l.k
