use Rattle.std.proofs.Common.{arith}
use Rattle.widestring_c.proofs.Wtf8Texts.{few-bytes}
use Rattle.widestring_c.proofs.wtf8.wide_utf16_wtf8_length.Goals as goal

pub returns-clause-no_fault : goal.returns-clause-no_fault
returns-clause-no_fault c = omega (arith, c.wtf8_len.ensures, few-bytes c.args.units.now c.type_inv.units)
