use Rattle.std.proofs.Common.{◌≡◌, ◌++◌, take}
use Rattle.wide_registry.proofs.line.after.Given as goal

abbrev pub invariant-loop-byte : goal.invariant-loop-byte
invariant-loop-byte l = l.units ≡ take l.byte-index l.byte-items ++ l.rest
