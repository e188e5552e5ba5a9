use Rattle.std.proofs.Common.{◌≡◌, ◌≤◌, length}
use Rattle.wide_ustr.specs.LossyWith.{characters_left, lossy_with_rest, policy_of}
use Rattle.wide_ustr.proofs.lossy_with.CharsLossyWith.last_character.Given as goal

abbrev pub invariant-loop-rest : goal.invariant-loop-rest
invariant-loop-rest g l =
    (characters_left g.C.Unit.form g.C.Unit.number l.initial.self ≡ characters_left g.C.Unit.form g.C.Unit.number l.self) × (policy_of l.self ≡ policy_of l.initial.self)
    × (length (lossy_with_rest l.self) ≤ length (lossy_with_rest l.initial.self))

abbrev pub decreases-loop-rest : goal.decreases-loop-rest
decreases-loop-rest g l = length (lossy_with_rest l.self)
