use Rattle.std.proofs.Common.{◌+◌, ◌*◌, take}
use Rattle.wide_utf16_to_utf8.specs.Encoded.{EncodedUnits}
use Rattle.wide_utf16_to_utf8.proofs.to_utf8.put_pairs.Given as goal

abbrev pub invariant-loop-k : goal.invariant-loop-k
invariant-loop-k l = EncodedUnits (take (2 * l.k) l.block) (take l.fn.at l.fn.out) (take (l.fn.at + 4 * l.k) l.out)
