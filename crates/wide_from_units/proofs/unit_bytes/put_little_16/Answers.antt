use Rattle.std.proofs.Common.{arith, refl}
use Rattle.wide_forms.specs.EncodingForm.{Utf16}
use Rattle.wide_forms.specs.UnitBytes.{little_bytes}
use Rattle.wide_from_units.proofs.StoredBytes.{stored-two}
use Rattle.wide_from_units.proofs.unit_bytes.put_little_16.Goals as goal

pub loop-k-preserved : goal.loop-k-preserved
loop-k-preserved c = stored-two (little_bytes Utf16) c.args.units.now c.args.bytes.now c.loop-k.bytes c.loop-k.k c.loop-k-test.true _ _ (omega (arith, c.requires, c.loop-k.auto.bytes)) c.loop-k.invariant refl
