use Rattle.std.proofs.Common.{arith}
use Rattle.wide_utf16_to_utf8.proofs.Stores.{stored_four}
use Rattle.wide_utf16_to_utf8.proofs.one_unit.put_u32_le.Goals as goal

pub returns : goal.returns
returns c = stored_four c.args.out.now c.args.at _ _ _ _ (omega arith)
