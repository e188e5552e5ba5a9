use Rattle.std.proofs.Common.{◌≡◌, ◌≤◌, length, map, drop}
use Rattle.wide_forms.specs.Items.{items}
use Rattle.wide_forms.specs.Lossy.{lossy_after}
use Rattle.wide_forms.specs.Utf8.{utf8}
use Rattle.widestring_c.proofs.Buffers.{Puts}
use Rattle.widestring_c.proofs.to_utf8.put_lossy_after.Given as goal

abbrev pub invariant-prefixes : goal.invariant-prefixes
invariant-prefixes g l = record {
  so_far : Puts l.fn.text l.fn.at (utf8 (lossy_after l.policy l.after_fault (items g.C.Unit.form (map g.C.Unit.number l.units)))) l.at l.text (utf8 (lossy_after l.policy l.is_after (items g.C.Unit.form (map g.C.Unit.number l.rest))));
  space : length l.text ≡ length l.fn.text;
  beyond : drop l.at l.text ≡ drop l.at l.fn.text;
  spare : 2 ≤ length l.spare;
  chunk : 64 ≤ length l.chunk;
}

abbrev pub decreases-prefixes : goal.decreases-prefixes
decreases-prefixes g l = length l.rest
