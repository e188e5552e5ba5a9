use Rattle.std.proofs.Common.{refl, ap, ◌∙◌, map, length, [], take, arith}
use Rattle.std.proofs.lemmas.List.{take_all}
use Rattle.wide_forms.specs.Items.{chars}
use Rattle.wide_forms.specs.Laws.Splices.{chars-nil}
use Rattle.wide_forms.specs.Offsets.{text_of}
use Rattle.wide_editable.proofs.Made.{made-pop, made-pop_none}
use Rattle.wide_editable.proofs.operations.pop.Goals as goal

pub returns-in-Some-clause-made : goal.returns-in-Some-clause-made
returns-in-Some-clause-made g c = made-pop (text_of g.C.Unit.form g.C.Unit.number c.args.s.now.units) (text_of g.C.Unit.form g.C.Unit.number c.pop.new.self.units) c.in-Some.c c.in-Some.ensures.taken

pub returns-in-None-clause-made : goal.returns-in-None-clause-made
returns-in-None-clause-made g c =
    let form = g.C.Unit.form in
    let number = g.C.Unit.number in
    let none = c.in-None.ensures.none.0 refl in
    let n = length c.pop.new.self.units in
    let left = c.pop.ensures.prefix ∙ ap (take n) none ∙ take_all n [] (omega arith) in
    made-pop_none (text_of form number c.args.s.now.units) (text_of form number c.pop.new.self.units) (ap (λ us. chars form (map number us)) none ∙ chars-nil form) (ap (λ us. chars form (map number us)) left ∙ chars-nil form)
