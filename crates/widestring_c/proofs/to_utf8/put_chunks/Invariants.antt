use Rattle.std.proofs.Common.{◌≡◌, length, map, drop}
use Rattle.wide_forms.specs.Items.{IsWellFormed, chars}
use Rattle.wide_forms.specs.Utf8.{utf8}
use Rattle.widestring_c.proofs.Buffers.{Puts}
use Rattle.widestring_c.proofs.to_utf8.put_chunks.Given as goal

abbrev pub invariant-chunks : goal.invariant-chunks
invariant-chunks g l = record {
  well_formed : IsWellFormed g.C.Unit.form (map g.C.Unit.number l.rest);
  so_far : Puts l.fn.text l.fn.at (utf8 (chars g.C.Unit.form (map g.C.Unit.number l.units))) l.at l.text (utf8 (chars g.C.Unit.form (map g.C.Unit.number l.rest)));
  space : length l.text ≡ length l.fn.text;
  beyond : drop l.at l.text ≡ drop l.at l.fn.text;
}

abbrev pub decreases-chunks : goal.decreases-chunks
decreases-chunks g l = length l.rest
