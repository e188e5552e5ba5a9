use Rattle.wide_bytes.proofs.WholeBytes.{whole-bytes}
use Rattle.wide_bytes.proofs.laws.bytes_of_their_units.Goals as goal

pub returns : goal.returns
returns c = whole-bytes c.args.order c.args.bytes.now c.type_inv.bytes
