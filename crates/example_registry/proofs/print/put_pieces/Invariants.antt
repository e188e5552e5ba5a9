use Rattle.std.proofs.Common.{length}
use Rattle.example_registry.proofs.print.put_pieces.Given as goal

abbrev pub decreases-pieces : goal.decreases-pieces
decreases-pieces l = length l.rest
