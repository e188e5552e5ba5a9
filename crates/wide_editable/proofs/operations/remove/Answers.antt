use Rattle.std.proofs.Common.{map, ◌∙◌, arith}
use Rattle.std.proofs.lemmas.List.{length-map}
use Rattle.wide_forms.specs.Offsets.{text_of}
use Rattle.wide_editable.proofs.Made.{rejected-remove}
use Rattle.wide_offset_index.proofs.Offsets.{found_some, end-all}
use Rattle.wide_editable.proofs.AtFound.{boundary-there, removed, not-removed}
use Rattle.wide_editable.proofs.operations.remove.Goals as goal

pub remove-requires-clause-boundary : goal.remove-requires-clause-boundary
remove-requires-clause-boundary g c = boundary-there g.C.Unit.form (map g.C.Unit.number c.args.s.now.units) c.args.index c.args.found c.requires c.in-Some.at c.in-Some.is

pub remove-requires-clause-below : goal.remove-requires-clause-below
remove-requires-clause-below g c =
    let here = boundary-there g.C.Unit.form (map g.C.Unit.number c.args.s.now.units) c.args.index c.args.found c.requires c.in-Some.at c.in-Some.is in
    omega (arith, here.0, length-map c.args.s.now.units g.C.Unit.number, c.len.ensures, c.if-at-len.false)

pub returns-then-at-len-clause-made : goal.returns-then-at-len-clause-made
returns-then-at-len-clause-made g c =
    let found = found_some g.C.Unit.form (map g.C.Unit.number c.args.s.now.units) c.args.index c.args.found c.in-Some.at c.requires c.in-Some.is in
    rejected-remove (text_of g.C.Unit.form g.C.Unit.number c.args.s.now.units) c.args.index (end-all g.C.Unit.form g.C.Unit.number c.args.s.now.units c.string_facts.ensures.well_formed c.args.index c.in-Some.at found.offset (c.if-at-len.true ∙ c.len.ensures))

pub returns-else-at-len-clause-made : goal.returns-else-at-len-clause-made
returns-else-at-len-clause-made g c =
    removed g.C.Unit.form (map g.C.Unit.number c.args.s.now.units) c.args.index c.args.found c.requires c.in-Some.at c.in-Some.is (map g.C.Unit.number c.remove.new.self.units) c.remove.result c.remove.ensures.taken c.remove.ensures.text

pub returns-in-None-clause-made : goal.returns-in-None-clause-made
returns-in-None-clause-made g c = not-removed g.C.Unit.form (map g.C.Unit.number c.args.s.now.units) c.args.index c.args.found c.requires c.in-None.is
