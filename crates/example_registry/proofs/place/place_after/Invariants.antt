use Rattle.std.proofs.Common.{length}
use Rattle.example_registry.proofs.place.place_after.Given as goal

abbrev pub decreases-units : goal.decreases-units
decreases-units l = length l.rest
