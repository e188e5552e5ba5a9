use Rattle.std.proofs.Common.{◌≡◌, ◌≤◌, ◌-◌, false, length, take}
use Rattle.std.specs.Io.KnownBytes.{Consumes}
use Rattle.wide_transcode.proofs.chunks.take_start.Given as goal

abbrev pub invariant-takes : goal.invariant-takes
invariant-takes g l = record {
  within : l.pending ≤ length l.chunk;
  given : Consumes (g.S.ByteSource.left l.fn.source) (g.S.ByteSource.left l.source) (take l.pending l.chunk);
  valid : g.S.ByteSource.has_failed l.source ≡ false;
  open_still : g.S.ByteSource.has_ended l.source ≡ false;
}

abbrev pub decreases-takes : goal.decreases-takes
decreases-takes g l = 2 - l.pending
