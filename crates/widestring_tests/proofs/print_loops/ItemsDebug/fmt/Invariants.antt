use Rattle.std.proofs.Common.{length}
use Rattle.widestring_tests.proofs.print_loops.ItemsDebug.fmt.Given as goal

abbrev pub decreases-loop-item : goal.decreases-loop-item
decreases-loop-item g l = length l.rest
