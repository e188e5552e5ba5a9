use Rattle.std.proofs.Common.{◌-◌, arith}
use Rattle.wide_ustring.proofs.Moved.{down-step}
use Rattle.wide_ustring.proofs.moves.move_down.Goals as goal

pub loop-done-preserved : goal.loop-done-preserved
loop-done-preserved g c = (
  omega (arith, c.loop-done-test.true),
  down-step c.args.elements.now c.loop-done.elements c.move_block.new.elements c.args.from c.args.to c.loop-done.done 32 _ _ c.requires.down (omega (arith, c.requires.within, c.loop-done-test.true)) (omega arith) (omega arith) c.loop-done.invariant.1 c.move_block.ensures,
)

pub returns : goal.returns
returns g c =
    down-step c.args.elements.now c.loop-done.elements c.copy_within.new.self c.args.from c.args.to c.loop-done.done (c.args.count - c.loop-done.done) _ _ c.requires.down (omega (arith, c.requires.within, c.loop-done.invariant.0)) (omega (arith, c.loop-done.invariant.0)) (omega (arith, c.loop-done.invariant.0)) c.loop-done.invariant.1 c.copy_within.ensures.after
