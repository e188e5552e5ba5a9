use Rattle.std.proofs.Common.{length}
use Rattle.example_registry.proofs.reader.Reader.read.Given as goal

abbrev pub decreases-parts : goal.decreases-parts
decreases-parts l = length l.export.rest.now
