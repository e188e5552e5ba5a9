use Rattle.wide_transcode.proofs.Finish.{finished-fault, finished-ok}
use Rattle.wide_transcode.proofs.chunks.finish_strict.Goals as goal

pub returns-then-unit-ne0 : goal.returns-then-unit-ne0
returns-then-unit-ne0 c = finished-fault (Unit {0}) c.args.order c.args.rest.now c.args.offset c.args.item c.unit_in-unit.result _ c.requires.pending c.if-rest-ge2.true c.unit_in-unit.ensures c.if-unit-ne0.true c.fault_at.ensures

pub returns-else-unit-ne0 : goal.returns-else-unit-ne0
returns-else-unit-ne0 c = finished-ok c.args.order c.args.rest.now c.unit_in-unit.result c.requires.pending c.if-rest-ge2.true c.unit_in-unit.ensures c.if-unit-ne0.false
