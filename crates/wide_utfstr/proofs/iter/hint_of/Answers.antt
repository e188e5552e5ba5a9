use Rattle.std.proofs.Common.{arith}
use Rattle.wide_utfstr.proofs.Counts.{chars-at_least, chars-at_most}
use Rattle.wide_utfstr.proofs.iter.hint_of.Goals as goal

pub returns-clause-lower : goal.returns-clause-lower
returns-clause-lower g c =
    let text = c.args.text in
    let least = chars-at_least g.C.Unit.form g.C.Unit.number text.units.now text.well_formed g.C.Unit.MAX_CHAR_LEN (omega (arith, c.char_len-longest.ensures)) in
    rw (c.len.ensures, c.MAX_CHAR_LEN.ensures) least

pub returns-clause-upper : goal.returns-clause-upper
returns-clause-upper g c = chars-at_most g.C.Unit.form g.C.Unit.number c.args.text.units.now c.args.text.well_formed
