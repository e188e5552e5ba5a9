use Rattle.std.proofs.Common.{◌≡◌, ◌≤◌, length}
use Rattle.wide_ustr.specs.LossyWith.{characters_left, lossy_with_rest, policy_of}
use Rattle.wide_ustr.proofs.lossy_with.CharsLossyWith.first_character.Given as goal

abbrev pub invariant-loop-item : goal.invariant-loop-item
invariant-loop-item g l =
    (characters_left g.C.Unit.form g.C.Unit.number l.initial.self ≡ characters_left g.C.Unit.form g.C.Unit.number l.self) × (policy_of l.self ≡ policy_of l.initial.self)
    × (length (lossy_with_rest l.self) ≤ length (lossy_with_rest l.initial.self))

abbrev pub decreases-loop-item : goal.decreases-loop-item
decreases-loop-item g l = length (lossy_with_rest l.self)
