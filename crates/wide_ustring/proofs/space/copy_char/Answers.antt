use Rattle.std.proofs.Common.{◌-◌, arith}
use Rattle.wide_ustring.proofs.Copied.{char_copied, copied_in_place}
use Rattle.wide_ustring.proofs.space.copy_char.Goals as goal

pub returns-then-onto-from-clause-units : goal.returns-then-onto-from-clause-units
returns-then-onto-from-clause-units g c =
    let asked = c.requires in
    char_copied c.args.units.now.items c.args.from c.args.to c.args.onto c.index-first.result.now c.index-last.result.now (c.args.to - 1 - c.args.from) (omega (arith, asked.few)) (omega (arith, asked.some)) c.if-onto-from.true (omega (arith, asked.within, c.args.units.now.ok.0)) c.index-first.ensures c.index-last.ensures

pub returns-else-onto-from-clause-units : goal.returns-else-onto-from-clause-units
returns-else-onto-from-clause-units g c =
    copied_in_place c.args.units.now.items c.args.from c.args.to c.args.onto (omega (arith, c.requires.down, c.if-onto-from.false))
