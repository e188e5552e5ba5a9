use Rattle.std.proofs.Common.{map, length}
use Rattle.wide_editable.proofs.AtFound.{range-there, inserted_str, not-inserted_str}
use Rattle.wide_editable.proofs.operations.insert_str.Goals as goal

pub splice_str-fits-requires : goal.splice_str-fits-requires
splice_str-fits-requires g c = range-there g.C.Unit.form (map g.C.Unit.number c.args.s.now.units) c.args.index c.args.found c.requires.found c.in-Some.at c.in-Some.is

pub returns-in-Some-clause-made : goal.returns-in-Some-clause-made
returns-in-Some-clause-made g c =
    let done = c.splice_str-fits in
    inserted_str g.C.Unit.form (map g.C.Unit.number c.args.s.now.units) c.args.index c.args.found c.requires.found c.in-Some.at c.in-Some.is (map g.C.Unit.number done.new.self.units) done.result (length c.args.s.now.units) c.args.s.now.capacity c.string_facts.ensures.count c.args.text
    c.requires.ready done.ensures.succeeds done.ensures.text

pub returns-in-None-clause-made : goal.returns-in-None-clause-made
returns-in-None-clause-made g c = not-inserted_str g.C.Unit.form (map g.C.Unit.number c.args.s.now.units) c.args.index c.args.found c.requires.found c.in-None.is c.args.text
