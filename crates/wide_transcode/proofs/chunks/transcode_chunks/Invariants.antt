use Rattle.std.proofs.Common.{◌≡◌, ◌≤◌, ◌-◌, ◌+◌, ◌*◌, ◌^◌, ◌++◌, ℕ, List, false, length, take}
use Rattle.wide_transcode.specs.Run.{Moves}
use Rattle.wide_transcode.proofs.Sofar.{Sofar}
use Rattle.wide_transcode.proofs.chunks.transcode_chunks.Given as goal

abbrev pub invariant-chunks : goal.invariant-chunks
invariant-chunks g l = record {
  within : l.pending ≤ length l.chunk;
  few : l.position.offset ≤ 2 ^ 64;
  few_items : l.position.item ≤ l.position.offset;
  run : (bytes written : List ℕ)
      × Moves (g.S.ByteSource.left l.fn.source) (g.S.ByteSource.left l.source) (g.K.ByteSink.held l.fn.sink) (g.K.ByteSink.held l.sink) bytes written
      × Sofar l.order l.policy (take l.start l.fn.chunk ++ bytes) (take l.pending l.chunk) l.position.after_fault written l.position.offset l.position.item;
  source_unfailed : g.S.ByteSource.has_failed l.source ≡ false;
  source_open : g.S.ByteSource.has_ended l.source ≡ false;
  sink_unfailed : g.K.ByteSink.has_failed l.sink ≡ false;
}

abbrev pub decreases-chunks : goal.decreases-chunks
decreases-chunks g l = 2 ^ 65 + 2 ^ 13 - (2 * l.position.offset + l.pending)
