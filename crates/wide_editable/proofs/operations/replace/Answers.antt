use Rattle.std.proofs.Common.{map, length}
use Rattle.wide_forms.specs.Offsets.{text_of}
use Rattle.wide_editable.proofs.Made.{rejected-replace}
use Rattle.wide_editable.proofs.AtFound.{replaced}
use Rattle.wide_editable.proofs.operations.replace.Goals as goal

pub returns-in-Some-clause-made : goal.returns-in-Some-clause-made
returns-in-Some-clause-made g c =
    let done = c.splice_str-fits in
    replaced g.C.Unit.form g.C.Unit.number c.args.s.now.units c.string_facts.ensures.well_formed c.args.from c.args.to c.in-Some.range.start c.in-Some.range.end c.in-Some.ensures.some (map g.C.Unit.number done.new.self.units) done.result
    (length c.args.s.now.units) c.args.s.now.capacity c.string_facts.ensures.count c.args.text c.requires.ready done.ensures.succeeds done.ensures.text

pub returns-in-None-clause-made : goal.returns-in-None-clause-made
returns-in-None-clause-made g c =
    let l = text_of g.C.Unit.form g.C.Unit.number c.args.s.now.units in
    rejected-replace l l c.args.text c.args.from c.args.to c.in-None.ensures.none
