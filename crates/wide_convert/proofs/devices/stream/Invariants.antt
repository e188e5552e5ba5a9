use Rattle.std.proofs.Common.{◌≡◌, ◌+◌, ◌-◌, ◌^◌, ◌≤◌, false, true, length, take, drop}
use Rattle.std.specs.Io.KnownBytes.{IsAtEnd}
use Rattle.wide_schemes.specs.Layouts.{needs_text}
use Rattle.wide_convert.specs.Steps.{IsReading}
use Rattle.wide_convert.proofs.Streaming.{Streaming}
use Rattle.wide_convert.proofs.devices.stream.Given as goal

-- The text of what was taken and is not left in the chunk was put.
abbrev pub invariant-pieces : goal.invariant-pieces
invariant-pieces g l = record {
  from : l.from ≤ l.end;
  within : l.end ≤ length l.chunk;
  long : length l.chunk ≡ length l.fn.chunk;
  space : 8 ≤ length l.out;
  ready : IsReading l.reading;
  text : needs_text l.to ≡ true → l.reading.keeps ≡ false;
  source_unfailed : g.S.ByteSource.has_failed l.source ≡ false;
  sink_unfailed : g.K.ByteSink.has_failed l.sink ≡ false;
  source_open : g.S.ByteSource.has_ended l.source ≡ l.is_last;
  at_end : l.is_last ≡ true → IsAtEnd (g.S.ByteSource.left l.source);
  run : Streaming l.fn.reading l.reading l.to l.is_last (take (l.end - l.from) (drop l.from l.chunk)) l.counter (g.S.ByteSource.left l.fn.source) (g.S.ByteSource.left l.source) (g.K.ByteSink.held l.fn.sink) (g.K.ByteSink.held l.sink);
}

abbrev pub decreases-pieces : goal.decreases-pieces
decreases-pieces g l = 2 ^ 64 + 1 - l.counter
