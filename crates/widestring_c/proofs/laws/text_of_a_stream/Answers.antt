use Rattle.widestring_c.proofs.ChunkUnits.{last-joined, text-joined}
use Rattle.widestring_c.proofs.laws.text_of_a_stream.Goals as goal

pub returns-clause-text : goal.returns-clause-text
returns-clause-text c = text-joined c.args.policy c.args.after_fault c.args.order c.args.prefix.now c.args.back.now c.requires.whole c.requires.cut

pub returns-clause-last : goal.returns-clause-last
returns-clause-last c = last-joined c.args.after_fault c.args.order c.args.prefix.now c.args.back.now c.requires.whole c.requires.cut
