use Rattle.std.proofs.Common.{map, length}
use Rattle.wide_editable.proofs.AtFound.{boundary-there, inserted, not-inserted}
use Rattle.wide_editable.proofs.operations.insert.Goals as goal

pub insert-fits-requires : goal.insert-fits-requires
insert-fits-requires g c = boundary-there g.C.Unit.form (map g.C.Unit.number c.args.s.now.units) c.args.index c.args.found c.requires.found c.in-Some.at c.in-Some.is

pub returns-in-Some-clause-made : goal.returns-in-Some-clause-made
returns-in-Some-clause-made g c =
    let done = c.insert-fits in
    inserted g.C.Unit.form (map g.C.Unit.number c.args.s.now.units) c.args.index c.args.found c.requires.found c.in-Some.at c.in-Some.is (map g.C.Unit.number done.new.self.units) done.result (length c.args.s.now.units) c.args.s.now.capacity c.string_facts.ensures.count c.args.c
    c.requires.ready done.ensures.succeeds done.ensures.text

pub returns-in-None-clause-made : goal.returns-in-None-clause-made
returns-in-None-clause-made g c = not-inserted g.C.Unit.form (map g.C.Unit.number c.args.s.now.units) c.args.index c.args.found c.requires.found c.in-None.is c.args.c
