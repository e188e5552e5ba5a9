use Rattle.wide_unit.proofs.SameLanes.{same-units}
use Rattle.wide_unit.proofs.same_blocks.same_blocks.Goals as goal

pub returns-in-U16-U16-clause-same : goal.returns-in-U16-U16-clause-same
returns-in-U16-U16-clause-same g c =
    same-units g.C.Unit.number g.met.C.Unit.same c.args.left.now c.args.right.now c.in-U16-U16.left.now c.in-U16-U16.right.now c.same_lanes.result c.in-U16-U16.ensures.numbers c.in-U16-U16.ensures'.numbers c.same_lanes.ensures.same

pub returns-in-U32-U32-clause-same : goal.returns-in-U32-U32-clause-same
returns-in-U32-U32-clause-same g c =
    same-units g.C.Unit.number g.met.C.Unit.same c.args.left.now c.args.right.now c.in-U32-U32.left.now c.in-U32-U32.right.now c.same_lanes-in-U32-U32.result c.in-U32-U32.ensures.numbers c.in-U32-U32.ensures'.numbers c.same_lanes-in-U32-U32.ensures.same
