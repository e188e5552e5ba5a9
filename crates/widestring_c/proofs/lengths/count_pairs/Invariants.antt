use Rattle.std.proofs.Common.{◌≡◌, take, nat_le}
use Rattle.std.specs.List.{count_by}
use Rattle.widestring_c.proofs.lengths.count_pairs.Given as goal

abbrev pub invariant-loop-scalar : goal.invariant-loop-scalar
invariant-loop-scalar l = l.count ≡ count_by (nat_le 0x1_0000) (take l.scalar-index l.scalars)
