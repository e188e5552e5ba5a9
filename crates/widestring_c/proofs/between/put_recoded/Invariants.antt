use Rattle.std.proofs.Common.{◌≡◌, length, map, drop}
use Rattle.wide_forms.specs.EncodingForm.{encode}
use Rattle.wide_forms.specs.Items.{IsWellFormed, chars}
use Rattle.widestring_c.proofs.Buffers.{Puts}
use Rattle.widestring_c.proofs.between.put_recoded.Given as goal

abbrev pub invariant-chunks : goal.invariant-chunks
invariant-chunks g l = record {
  well_formed : IsWellFormed g.C.Unit.form (map g.C.Unit.number l.rest);
  so_far : Puts (map g.D.Unit.number l.fn.space) l.fn.at (encode g.D.Unit.form (chars g.C.Unit.form (map g.C.Unit.number l.units))) l.at (map g.D.Unit.number l.space) (encode g.D.Unit.form (chars g.C.Unit.form (map g.C.Unit.number l.rest)));
  space : length l.space ≡ length l.fn.space;
  beyond : drop l.at l.space ≡ drop l.at l.fn.space;
}

abbrev pub decreases-chunks : goal.decreases-chunks
decreases-chunks g l = length l.rest
