use Rattle.std.proofs.Common.{◌≡◌, ◌+◌, ◌/◌, length}
use Rattle.wide_bytes.specs.Bytes.{units_in}
use Rattle.widestring_c.proofs.ChunkUnits.{Passed}
use Rattle.widestring_c.proofs.bytes.valid_units_len.Given as goal

abbrev pub invariant-chunks : goal.invariant-chunks
invariant-chunks l = record {
  so_far : Passed (units_in l.order l.bytes) l.passed (units_in l.order l.rest);
  offset : l.passed + length l.rest / 2 ≡ length l.bytes / 2;
}

abbrev pub decreases-chunks : goal.decreases-chunks
decreases-chunks l = length l.rest
