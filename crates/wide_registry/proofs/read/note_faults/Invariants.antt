use Rattle.std.proofs.Common.{◌≡◌, ◌≤◌, length, vec_len}
use Rattle.wide_registry.proofs.read.note_faults.Given as goal

abbrev pub invariant-loop-index : goal.invariant-loop-index
invariant-loop-index l =
    (l.notes.len ≡ l.initial.notes.len)
    × (vec_len l.initial.notes.damages ≤ vec_len l.notes.damages)
    × (vec_len l.notes.damages ≤ vec_len l.initial.notes.damages → l.rest ≡ l.part)

abbrev pub decreases-loop-index : goal.decreases-loop-index
decreases-loop-index l = length l.rest
