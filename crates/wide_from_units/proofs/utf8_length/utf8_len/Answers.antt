use Rattle.std.proofs.Common.{arith, map}
use Rattle.wide_from_units.proofs.Utf8Lengths.{len-by_width16, len-by_width32}
use Rattle.wide_from_units.proofs.utf8_length.utf8_len.Goals as goal

pub returns-in-U16 : goal.returns-in-U16
returns-in-U16 g c = omega (arith, c.len_of.ensures, len-by_width16 g.C.Unit.form c.in-U16.units.now (map g.C.Unit.number c.args.units.now) c.in-U16.ensures.numbers c.requires c.in-U16.ensures.form)

pub returns-in-U32 : goal.returns-in-U32
returns-in-U32 g c =
    omega (arith, c.len_of-in-U32.ensures, len-by_width32 g.C.Unit.form c.in-U32.units.now (map g.C.Unit.number c.args.units.now) c.in-U32.ensures.numbers c.requires c.in-U32.ensures.form)
