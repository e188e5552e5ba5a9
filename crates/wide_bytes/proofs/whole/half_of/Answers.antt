use Rattle.std.proofs.Common.{sym, arith}
use Rattle.wide_bytes.proofs.WholeBytes.{half-even, half-odd}
use Rattle.wide_bytes.proofs.whole.half_of.Goals as goal

pub returns-then-bytes-eq0 : goal.returns-then-bytes-eq0
returns-then-bytes-eq0 c = sym (half-even c.args.bytes.now (omega (arith, c.if-bytes-eq0.true)))

pub returns-else-bytes-eq0 : goal.returns-else-bytes-eq0
returns-else-bytes-eq0 c = sym (half-odd c.args.bytes.now (omega (arith, c.if-bytes-eq0.false)))
