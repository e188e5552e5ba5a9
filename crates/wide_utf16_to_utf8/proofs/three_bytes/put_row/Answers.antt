use Rattle.std.proofs.Common.{arith, rules}
use Rattle.wide_utf16_to_utf8.specs.declared.three_bytes_rows.TheConstants.{ROWS}
use Rattle.wide_utf16_to_utf8.proofs.Tables.{row-shuffle}
use Rattle.wide_utf16_to_utf8.proofs.Rows.{row-len, rows-valid, words-stored}
use Rattle.wide_utf16_to_utf8.proofs.three_bytes.put_row.Goals as goal

pub swizzle : goal.swizzle
swizzle c = row-shuffle ROWS rows-valid c.args.row c.requires.below

pub overflow_add-result : goal.overflow_add-result
overflow_add-result c =
    let small = row-len c.args.row in
    search rules

pub returns-clause-text : goal.returns-clause-text
returns-clause-text c = λ a b d e is. words-stored c.args.out.now c.args.words c.args.at c.args.row a b d e c.requires.below is c.requires.space

pub returns-clause-high : goal.returns-clause-high
returns-clause-high c = omega (arith, row-len c.args.row)
