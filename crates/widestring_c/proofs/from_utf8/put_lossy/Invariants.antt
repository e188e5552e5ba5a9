use Rattle.std.proofs.Common.{◌≡◌, length, map, drop}
use Rattle.wide_forms.specs.EncodingForm.{encode}
use Rattle.wide_forms.specs.Lossy.{lossy_after, lossy_by}
use Rattle.wide_conversions.specs.Utf8Items.{utf8_items}
use Rattle.widestring_c.proofs.Buffers.{Puts}
use Rattle.widestring_c.proofs.from_utf8.put_lossy.Given as goal

abbrev pub invariant-prefixes : goal.invariant-prefixes
invariant-prefixes g l = record {
  so_far : Puts (map g.C.Unit.number l.fn.units) 0 (encode g.C.Unit.form (lossy_by l.policy (utf8_items l.text))) l.at (map g.C.Unit.number l.units) (encode g.C.Unit.form (lossy_after l.policy l.after_fault (utf8_items l.rest)));
  space : length l.units ≡ length l.fn.units;
  beyond : drop l.at l.units ≡ drop l.at l.fn.units;
}

abbrev pub decreases-prefixes : goal.decreases-prefixes
decreases-prefixes g l = length l.rest
