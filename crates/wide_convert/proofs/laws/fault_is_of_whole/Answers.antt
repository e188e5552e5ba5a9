use Rattle.wide_convert.proofs.Pieces.{fault-whole}
use Rattle.wide_convert.proofs.laws.fault_is_of_whole.Goals as goal

pub returns : goal.returns
returns c = fault-whole
