use Rattle.wide_convert.proofs.Pieces.{pieces-whole}
use Rattle.wide_convert.proofs.laws.pieces_are_whole.Goals as goal

pub returns : goal.returns
returns c = pieces-whole
