use Rattle.std.proofs.Common.{◌≡◌, ◌≤◌, length, vec_len}
use Rattle.wide_registry.specs.Escapes.{has_good_escapes}
use Rattle.wide_registry.proofs.string.note_escapes.Given as goal

abbrev pub invariant-loop-rest : goal.invariant-loop-rest
invariant-loop-rest l =
    (l.notes.len ≡ l.initial.notes.len)
    × (vec_len l.initial.notes.damages ≤ vec_len l.notes.damages)
    × (vec_len l.notes.damages ≤ vec_len l.initial.notes.damages → has_good_escapes l.rest ≡ has_good_escapes l.string)

abbrev pub decreases-loop-rest : goal.decreases-loop-rest
decreases-loop-rest l = length l.rest
