use Rattle.std.proofs.Common.{length}
use Rattle.example_registry.proofs.print.put_bytes.Given as goal

abbrev pub decreases-lines : goal.decreases-lines
decreases-lines l = length l.rest
