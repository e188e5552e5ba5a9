use Rattle.std.proofs.Common.{length}
use Rattle.example_registry.proofs.json.put_texts.Given as goal

abbrev pub decreases-texts : goal.decreases-texts
decreases-texts l = length l.rest
