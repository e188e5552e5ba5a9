use Rattle.std.proofs.Common.{arith}
use Rattle.wide_schemes.proofs.Parts32.{part-incomplete}
use Rattle.wide_schemes.proofs.utf32.stop_before.Goals as goal

pub returns-in-1-to-3 : goal.returns-in-1-to-3
returns-in-1-to-3 c order last room enough = part-incomplete order c.args.rest.now last (omega (arith, c.in-1-to-3)) (omega (arith, c.in-1-to-3))
