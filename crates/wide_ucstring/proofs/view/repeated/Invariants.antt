use Rattle.std.proofs.Common.{◌≡◌}
use Rattle.std.specs.List.{repeat}
use Rattle.wide_ustr.specs.View.{units_seen}
use Rattle.wide_ucstring.proofs.view.repeated.Given as goal

abbrev pub invariant-loop-turn : goal.invariant-loop-turn
invariant-loop-turn g l = l.string.units ≡ repeat l._turn (units_seen l.text)
