use Rattle.std.proofs.Common.{◌∷◌, [], ◌++◌, ap, ◌∙◌, map}
use Rattle.wide_forms.specs.Items.{items, characters}
use Rattle.wide_unit.specs.Unit.{item_of}
use Rattle.wide_forms.specs.Laws.WellFormed.{no_last_fault, well_formed-prefix, characters-push}
use Rattle.wide_utfstr.proofs.view.UtfStr.split_last_char.Goals as goal

pub invariant_of-result : goal.invariant_of-result
invariant_of-result g c =
    let form = g.C.Unit.form in
    let number = g.C.Unit.number in
    let rest = map number c.in_ok-rest.rest.now in
    record { well_formed = well_formed-prefix form (map number c.args.self.units.now) rest c.args.self.well_formed c.in-Ok.c (c.in_ok-rest.ensures.some ∙ ap (λ r. items form rest ++ item_of number r ∷ []) c.in-Ok.is) }

pub unreachable-requires : goal.unreachable-requires
unreachable-requires g c =
    let form = g.C.Unit.form in
    let number = g.C.Unit.number in
    let rest = map number c.in_ok-rest.rest.now in
    no_last_fault form (map number c.args.self.units.now) rest c.args.self.well_formed (number c.in_default.field-0) (c.in_ok-rest.ensures.some ∙ ap (λ r. items form rest ++ item_of number r ∷ []) c.in_default.is)

pub returns-clause-some : goal.returns-clause-some
returns-clause-some g c =
    let form = g.C.Unit.form in
    let number = g.C.Unit.number in
    let rest = map number c.in_ok-rest.rest.now in
    ap characters (c.in_ok-rest.ensures.some ∙ ap (λ r. items form rest ++ item_of number r ∷ []) c.in-Ok.is) ∙ characters-push (items form rest) c.in-Ok.c
