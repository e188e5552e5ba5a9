use Rattle.std.proofs.Common.{◌≡◌, ◌≤◌, length, vec_len}
use Rattle.wide_registry.proofs.read.note_nuls.Given as goal

abbrev pub invariant-loop-behind : goal.invariant-loop-behind
invariant-loop-behind l =
    (l.notes.len ≡ l.initial.notes.len) × (vec_len l.initial.notes.damages ≤ vec_len l.notes.damages)

abbrev pub decreases-loop-behind : goal.decreases-loop-behind
decreases-loop-behind l = length l.rest
