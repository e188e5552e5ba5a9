use Rattle.std.proofs.Common.{◌≡◌, length}
use Rattle.wide_subtitles.specs.Kinds.{begins_clock, has_part}
use Rattle.wide_subtitles.proofs.kinds.has_clock.Given as goal

abbrev pub decreases-loop-rest : goal.decreases-loop-rest
decreases-loop-rest l = length l.rest

abbrev pub invariant-loop-rest : goal.invariant-loop-rest
invariant-loop-rest l = has_part begins_clock l.rest ≡ has_part begins_clock l.units
