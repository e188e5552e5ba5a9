use Rattle.widestring_c.proofs.ChunkUnits.{strict-joined, well_formed-joined, well_formed-parted}
use Rattle.widestring_c.proofs.laws.strict_text_of_a_stream.Goals as goal

pub returns-clause-well_formed : goal.returns-clause-well_formed
returns-clause-well_formed c = (
  well_formed-parted c.args.order c.args.prefix.now c.args.back.now c.requires.whole c.requires.cut,
  λ both. well_formed-joined c.args.order c.args.prefix.now c.args.back.now c.requires.whole c.requires.cut both.0 both.1,
)

pub returns-clause-text : goal.returns-clause-text
returns-clause-text c = strict-joined c.args.order c.args.prefix.now c.args.back.now c.requires.whole c.requires.cut
