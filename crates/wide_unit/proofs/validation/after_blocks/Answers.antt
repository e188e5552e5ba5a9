use Rattle.std.proofs.Common.{map}
use Rattle.wide_unit.proofs.Alone.{chars-then}
use Rattle.wide_unit.proofs.validation.after_blocks.Goals as goal

pub returns-clause-text : goal.returns-clause-text
returns-clause-text g c =
    let number = g.C.Unit.number in
    chars-then g.C.Unit.form (map number c.args.units.now) (map number c.after_scalars.result.now) _ c.after_scalars.ensures.text c.after_pairs.ensures.text
