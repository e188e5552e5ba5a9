use Rattle.std.proofs.Common.{length, length-take, ap, arith}
use Rattle.wide_convert.proofs.Encoded.{some-text}
use Rattle.wide_convert.proofs.converter.put_text.Goals as goal

pub returns-then-units-out-clause-some : goal.returns-then-units-out-clause-some
returns-then-units-out-clause-some c some = omega (arith, some-text c.args.layout c.args.units.now some, ap length c.encode.ensures.text, length-take c.encode.result c.encode.new.out)

pub returns-clause-some : goal.returns-clause-some
returns-clause-some c some = omega (arith, some-text c.args.layout c.args.units.now some, ap length c.encode-len.ensures.text, length-take c.encode-len.result c.encode-len.new.out)
