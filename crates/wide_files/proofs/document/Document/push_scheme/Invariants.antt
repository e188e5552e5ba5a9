use Rattle.std.proofs.Common.{◌+◌, ◌-◌, ◌^◌, ◌≤◌, length}
use Rattle.wide_files.proofs.document.Document.push_scheme.Given as goal

-- No more was read than there is.
abbrev pub invariant-loop : goal.invariant-loop
invariant-loop l = l.read ≤ length l.bytes

abbrev pub decreases-loop : goal.decreases-loop
decreases-loop l = 2 ^ 64 + 1 - l.counter
