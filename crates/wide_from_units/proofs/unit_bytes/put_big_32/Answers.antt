use Rattle.std.proofs.Common.{arith, refl}
use Rattle.wide_forms.specs.EncodingForm.{Utf32}
use Rattle.wide_forms.specs.UnitBytes.{big_bytes}
use Rattle.wide_from_units.proofs.StoredBytes.{stored-four}
use Rattle.wide_from_units.proofs.unit_bytes.put_big_32.Goals as goal

pub loop-k-preserved : goal.loop-k-preserved
loop-k-preserved c = stored-four (big_bytes Utf32) c.args.units.now c.args.bytes.now c.loop-k.bytes c.loop-k.k c.loop-k-test.true _ _ _ _ (omega (arith, c.requires, c.loop-k.auto.bytes)) c.loop-k.invariant refl
