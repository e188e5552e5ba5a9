use Rattle.std.proofs.Common.{◌≡◌, ◌≤◌, ◌-◌, false, length, take}
use Rattle.std.specs.Io.KnownBytes.{Appends}
use Rattle.wide_bytes.proofs.device_io.put_all.Given as goal

abbrev pub invariant-puts : goal.invariant-puts
invariant-puts g l = record {
  within : l.done ≤ length l.text;
  put : Appends (g.K.ByteSink.held l.fn.sink) (g.K.ByteSink.held l.sink) (take l.done l.text);
  valid : g.K.ByteSink.has_failed l.sink ≡ false;
}

abbrev pub decreases-puts : goal.decreases-puts
decreases-puts g l = length l.text - l.done
