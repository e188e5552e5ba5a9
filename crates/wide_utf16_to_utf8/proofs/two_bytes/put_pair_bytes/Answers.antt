use Rattle.wide_utf16_to_utf8.specs.declared.two_bytes_rows.TheConstants.{SHUFFLES}
use Rattle.wide_utf16_to_utf8.proofs.Shuffles.{pairs-stored, shuffle-valid}
use Rattle.wide_utf16_to_utf8.proofs.Tables.{row-shuffle}
use Rattle.wide_utf16_to_utf8.proofs.two_bytes.put_pair_bytes.Goals as goal

pub swizzle : goal.swizzle
swizzle c = row-shuffle SHUFFLES shuffle-valid c.args.ascii c.requires.below

pub returns-clause-text : goal.returns-clause-text
returns-clause-text c = λ us long is. pairs-stored c.args.ascii c.requires.below c.args.out.now c.args.pairs us c.args.at long is c.requires.space
