use Rattle.std.proofs.Common.{◌≤◌, arith, map}
use Rattle.wide_offset_index.proofs.Offsets.{found_some, found_range}
use Rattle.wide_editable.proofs.lookup.range_at.Goals as goal

pub returns-clause-some : goal.returns-clause-some
returns-clause-some g c =
    let form = g.C.Unit.form in
    let number = g.C.Unit.number in
    let us = map number c.args.s.now.units in
    let forward : c.args.from ≤ c.args.to = omega (arith, c.if-to-from.false) in
    found_range form number c.args.s.now.units c.string_facts.ensures.well_formed c.args.from c.args.to _ _ forward
    (found_some form us c.args.from c.args.start _ c.requires.start c.in_ok-start.was) (found_some form us c.args.to c.args.end _ c.requires.end c.in_ok-end.was)
