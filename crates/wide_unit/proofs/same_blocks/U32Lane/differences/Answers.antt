use Rattle.std.proofs.Common.{arith, w32}
use Rattle.wide_unit.proofs.SameLanes.{all-same, first-within, first-same}
use Rattle.wide_unit.proofs.same_blocks.U32Lane.differences.Goals as goal

pub returns-clause-none : goal.returns-clause-none
returns-clause-none c = all-same w32 8 (omega arith) c.args.left.now c.args.right.now c.requires.left c.requires.right

pub returns-clause-within : goal.returns-clause-within
returns-clause-within c = first-within w32 8 (omega arith) c.args.left.now c.args.right.now c.requires.left c.requires.right

pub returns-clause-same : goal.returns-clause-same
returns-clause-same c = first-same w32 8 (omega arith) c.args.left.now c.args.right.now c.requires.left c.requires.right
