use Rattle.std.proofs.Common.{arith}
use Rattle.wide_utf16_to_utf8.proofs.Rows.{first-row, second-row}
use Rattle.wide_utf16_to_utf8.proofs.three_bytes.rows_of.Goals as goal

pub returns-clause-first : goal.returns-clause-first
returns-clause-first c = first-row c.args.keys c.masks_of-masks.result c.fits-keys.0 (omega arith) c.masks_of-masks.ensures

pub returns-clause-second : goal.returns-clause-second
returns-clause-second c = second-row c.args.keys c.masks_of-masks.result c.fits-keys.0 (omega arith) c.masks_of-masks.ensures
