use Rattle.std.proofs.Common.{arith}
use Rattle.wide_ustring.proofs.Moved.{up-step, up-rest}
use Rattle.wide_ustring.proofs.moves.move_up.Goals as goal

pub loop-left-preserved : goal.loop-left-preserved
loop-left-preserved g c = (
  omega (arith, c.loop-left.invariant.0),
  up-step c.args.elements.now c.loop-left.elements c.move_block.new.elements c.args.from c.args.to c.args.count c.loop-left.left 32 c.requires.up c.requires.within c.loop-left.invariant.0 (omega (arith, c.loop-left-test.true)) c.loop-left.invariant.1 c.move_block.ensures,
)

pub returns : goal.returns
returns g c = up-rest c.args.elements.now c.loop-left.elements c.copy_within.new.self c.args.from c.args.to c.args.count c.loop-left.left c.requires.up c.requires.within c.loop-left.invariant.0 c.loop-left.invariant.1 c.copy_within.ensures.after
