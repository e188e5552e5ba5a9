use Rattle.std.proofs.Common.{◌≡◌, drop}
use Rattle.std.proofs.Math.Seq.{paste}
use Rattle.wide_ustring.proofs.moves.move_block.Given as goal

-- The first `k` elements of the block are read.
abbrev pub invariant-loop-k : goal.invariant-loop-k
invariant-loop-k g l = l.block ≡ paste l.initial.block 0 (drop l.from l.elements) l.k

-- The first `k` elements of the block are written.
abbrev pub invariant-loop-k-2 : goal.invariant-loop-k-2
invariant-loop-k-2 g l = l.elements ≡ paste l.fn.elements l.to l.block l.k
