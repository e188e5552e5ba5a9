use Rattle.std.proofs.Common.{◌≡◌, ◌≤◌, length, map, drop}
use Rattle.wide_forms.specs.EncodingForm.{encode}
use Rattle.wide_forms.specs.Items.{items}
use Rattle.wide_forms.specs.Lossy.{lossy_after, lossy_by}
use Rattle.widestring_c.proofs.Buffers.{Puts}
use Rattle.widestring_c.proofs.between_lossy.put_lossy_between.Given as goal

abbrev pub invariant-prefixes : goal.invariant-prefixes
invariant-prefixes g l = record {
  so_far : Puts (map g.D.Unit.number l.fn.space) 0 (encode g.D.Unit.form (lossy_by l.policy (items g.C.Unit.form (map g.C.Unit.number l.units)))) l.at (map g.D.Unit.number l.space) (encode g.D.Unit.form (lossy_after l.policy l.is_after (items g.C.Unit.form (map g.C.Unit.number l.rest))));
  space : length l.space ≡ length l.fn.space;
  beyond : drop l.at l.space ≡ drop l.at l.fn.space;
  spare : 2 ≤ length l.spare;
  chunk : 16 ≤ length l.chunk;
}

abbrev pub decreases-prefixes : goal.decreases-prefixes
decreases-prefixes g l = length l.rest
