use Rattle.std.proofs.Common.{◌∙◌, ap, arith, length}
use Rattle.wide_conversions.proofs.PrefixTexts.{lossy-utf8}
use Rattle.widestring_c.proofs.from_utf8.wide_utf8_to_utf32_lossy.Goals as goal

pub returns-clause-len : goal.returns-clause-len
returns-clause-len c = omega (arith, c.put_lossy_32.ensures.len, ap length (lossy-utf8 c.args.text.now))

pub returns-clause-units : goal.returns-clause-units
returns-clause-units c = λ fits. c.put_lossy_32.ensures.text fits ∙ lossy-utf8 c.args.text.now
