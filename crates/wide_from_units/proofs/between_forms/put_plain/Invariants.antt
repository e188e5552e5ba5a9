use Rattle.std.proofs.Common.{◌≡◌, length, map, take}
use Rattle.wide_from_units.proofs.between_forms.put_plain.Given as goal

abbrev pub invariant-loop-k : goal.invariant-loop-k
invariant-loop-k g l = record {
  long : length l.own ≡ 16;
  units : map g.D.Unit.number (take l.k l.own) ≡ take l.k (map g.C.Unit.number l.block);
}
