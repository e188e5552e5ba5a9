use Rattle.wide_transcode.proofs.Pending.{fault-before_zero}
use Rattle.wide_transcode.proofs.chunk_encoding.fault_before_zero.Goals as goal

pub returns-then-rest-ge4 : goal.returns-then-rest-ge4
returns-then-rest-ge4 c = fault-before_zero c.args.order c.args.rest.now _ c.requires c.if-rest-ge4.true c.unit_in.ensures
