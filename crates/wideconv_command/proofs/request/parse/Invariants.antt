use Rattle.std.proofs.Common.{◌≤◌, length}
use Rattle.wideconv_command.proofs.request.parse.Given as goal

-- No more was read than there are arguments.
abbrev pub invariant-loop : goal.invariant-loop
invariant-loop l = l.at ≤ length l.arguments
