use Rattle.std.proofs.Common.{refl, ap, ◌∙◌, map, drop}
use Rattle.wide_offset_index.proofs.Offsets.{found_some, found-second}
use Rattle.wide_editable.proofs.lookup.find_second.Goals as goal

pub returns : goal.returns
returns g c =
    found-second g.C.Unit.form g.C.Unit.number c.args.s.now.units c.string_facts.ensures.well_formed c.args.from c.args.to c.in_ok-at.at c.in_ok-ahead.ahead c.if-to-from.false c.split_at.result.1.units.now (c.split_at.ensures.back ∙ ap (drop c.in_ok-at.at) c.as_utfstr.ensures)
    (found_some g.C.Unit.form (map g.C.Unit.number c.args.s.now.units) c.args.from c.args.start c.in_ok-at.at c.requires c.in_ok-at.was) (c.in_ok-ahead.ensures.some.0 refl) c.in_ok-ahead.ensures.offset
