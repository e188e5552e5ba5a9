use Rattle.std.proofs.Common.{◌≡◌, ◌-◌, ◌^◌, min, take}
use Rattle.wide_subtitles.specs.Times.{number}
use Rattle.wide_subtitles.proofs.times.value_of.Given as goal

abbrev pub invariant-loop-digit : goal.invariant-loop-digit
invariant-loop-digit l = l.value ≡ min (number (take l.digit-index l.digits)) (2 ^ 32 - 1)
