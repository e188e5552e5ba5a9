use Rattle.std.proofs.Common.{◌≡◌}
use Rattle.std.specs.List.{repeat}
use Rattle.wide_ustr.specs.View.{units_seen}
use Rattle.wide_ustring.proofs.view.UStrUStrInUstring.repeat.Given as goal

abbrev pub invariant-loop-turn : goal.invariant-loop-turn
invariant-loop-turn g l = l.units.items ≡ repeat l._turn (units_seen l.self)
