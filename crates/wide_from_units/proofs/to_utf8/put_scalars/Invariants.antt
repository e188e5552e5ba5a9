use Rattle.std.proofs.Common.{◌≡◌, ◌≤◌, ◌+◌, ◌*◌, ◌++◌, take}
use Rattle.wide_forms.specs.Utf8.{utf8}
use Rattle.wide_from_units.proofs.to_utf8.put_scalars.Given as goal

abbrev pub invariant-loop-k : goal.invariant-loop-k
invariant-loop-k l = record {
  space : l.written ≤ l.fn.at + 4 * l.k;
  text : take l.written l.out ≡ take l.fn.at l.fn.out ++ utf8 (take l.k l.block);
}
