use Rattle.std.proofs.Common.{◌≡◌, ◌++◌, ◌+◌, ◌≤◌, length, take}
use Rattle.wide_repair.proofs.LossyChunks.{lossy_units}
use Rattle.wide_repair.proofs.lossy.put_retained_chunks.Given as goal

abbrev pub invariant-chunks : goal.invariant-chunks
invariant-chunks l = record {
  within : l.at + length l.rest ≤ length l.units;
  space : length l.text ≡ length l.fn.text;
  repaired : 2 ≤ length l.repaired;
  so_far : lossy_units l.policy l.fn.after_fault l.units ≡ take l.at l.text ++ lossy_units l.policy l.is_after l.rest;
}

abbrev pub decreases-chunks : goal.decreases-chunks
decreases-chunks l = length l.rest
