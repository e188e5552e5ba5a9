use Rattle.wide_from_utf8.proofs.CodeLanes.{lanes-are}
use Rattle.wide_from_utf8.proofs.from_utf8_mixed.codes_of.Goals as goal

pub returns : goal.returns
returns c = lanes-are 8 c.args.text.now c.requires
