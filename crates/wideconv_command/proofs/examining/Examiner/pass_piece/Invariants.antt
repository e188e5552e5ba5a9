use Rattle.std.proofs.Common.{◌≡◌, false, ◌+◌, ◌-◌, ◌^◌, ◌≤◌, length}
use Rattle.wideconv_command.proofs.examining.Examiner.pass_piece.Given as goal

-- The sink has not failed, and no more was read than the piece has.
abbrev pub invariant-loop : goal.invariant-loop
invariant-loop g l = record { read : l.read ≤ length l.piece; sink_unfailed : g.K.ByteSink.has_failed l.sink ≡ false }

abbrev pub decreases-loop : goal.decreases-loop
decreases-loop g l = 2 ^ 64 + 1 - l.counter
