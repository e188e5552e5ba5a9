use Rattle.std.proofs.Common.{◌≡◌, length}
use Rattle.wide_subtitles.specs.Kinds.{begins_arrow, has_part}
use Rattle.wide_subtitles.proofs.kinds.has_arrow.Given as goal

abbrev pub decreases-loop-rest : goal.decreases-loop-rest
decreases-loop-rest l = length l.rest

abbrev pub invariant-loop-rest : goal.invariant-loop-rest
invariant-loop-rest l = has_part begins_arrow l.rest ≡ has_part begins_arrow l.units
