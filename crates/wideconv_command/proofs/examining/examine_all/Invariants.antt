use Rattle.std.proofs.Common.{◌≡◌, false, ◌+◌, ◌-◌, ◌^◌}
use Rattle.wideconv_command.specs.Inputs.{has_taken_end, source_of}
use Rattle.wideconv_command.proofs.examining.examine_all.Given as goal

-- The devices have not failed, and the source has not ended.
abbrev pub invariant-loop : goal.invariant-loop
invariant-loop g l = record {
  source_unfailed : g.S.ByteSource.has_failed (source_of l.source) ≡ false;
  source_open : has_taken_end l.source ≡ false;
  sink_unfailed : g.K.ByteSink.has_failed l.sink ≡ false;
}

abbrev pub decreases-loop : goal.decreases-loop
decreases-loop g l = 2 ^ 64 + 1 - l.counter
