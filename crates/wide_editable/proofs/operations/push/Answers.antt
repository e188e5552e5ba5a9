use Rattle.std.proofs.Common.{length}
use Rattle.wide_forms.specs.Offsets.{text_of}
use Rattle.wide_editable.proofs.AtFound.{pushed}
use Rattle.wide_editable.proofs.operations.push.Goals as goal

pub returns-clause-made : goal.returns-clause-made
returns-clause-made g c =
    let done = c.push-fits in
    pushed g.C.Unit.form (text_of g.C.Unit.form g.C.Unit.number c.args.s.now.units) (text_of g.C.Unit.form g.C.Unit.number done.new.self.units) done.result (length c.args.s.now.units) c.args.s.now.capacity c.string_facts.ensures.count c.args.c c.requires done.ensures.succeeds done.ensures.text
