use Rattle.wide_transcode.proofs.Characters.{well-formed, length-ascii}
use Rattle.wide_transcode.proofs.chunk_encoding.char_count.Goals as goal

pub char_count-requires : goal.char_count-requires
char_count-requires c = well-formed c.args.units.now c.args.text.now c.requires

pub returns-then-text-units : goal.returns-then-text-units
returns-then-text-units c = length-ascii c.args.units.now c.args.text.now c.requires c.if-text-units.true
