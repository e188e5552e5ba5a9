use Rattle.std.proofs.Common.{ap, ◌∙◌, map, drop, inr}
use Rattle.std.specs.Prelude.{vec_capacity}
use Rattle.wide_editable.proofs.AtFound.{boundary-there, split-fits, split, not-split}
use Rattle.wide_editable.proofs.operations.split_off.Goals as goal

pub split_at-requires : goal.split_at-requires
split_at-requires g c = rw c.as_utfstr.ensures (boundary-there g.C.Unit.form (map g.C.Unit.number c.args.s.now.units) c.args.index c.args.found c.requires.found c.in-Some.at c.in-Some.is)

pub copy-taken-requires-clause-fits : goal.copy-taken-requires-clause-fits
copy-taken-requires-clause-fits g c =
    split-fits g.C.Unit.form g.C.Unit.number c.args.s.now.units c.args.index c.args.found c.requires.found c.in-Some.at c.in-Some.is c.split_at.result.1.units.now (c.split_at.ensures.back ∙ ap (drop c.in-Some.at) c.as_utfstr.ensures)
    (vec_capacity c.args.space) c.requires.space.fits

pub truncate-requires : goal.truncate-requires
truncate-requires g c = inr (boundary-there g.C.Unit.form (map g.C.Unit.number c.args.s.now.units) c.args.index c.args.found c.requires.found c.in-Some.at c.in-Some.is)

pub returns-in-Some-clause-made : goal.returns-in-Some-clause-made
returns-in-Some-clause-made g c =
    let both = split g.C.Unit.form g.C.Unit.number c.args.s.now.units c.args.index c.args.found c.requires.found c.in-Some.at c.in-Some.is c.split_at.result.1.units.now (c.split_at.ensures.back ∙ ap (drop c.in-Some.at) c.as_utfstr.ensures)
    (map g.C.Unit.number c.truncate.new.self.units) c.copy-taken.result.items c.copy-taken.ensures c.truncate.ensures.text in
    record { text = both.0; replied = both.1 }

pub returns-in-None-clause-made : goal.returns-in-None-clause-made
returns-in-None-clause-made g c = not-split g.C.Unit.form (map g.C.Unit.number c.args.s.now.units) c.args.index c.args.found c.requires.found c.in-None.is
