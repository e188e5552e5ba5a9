use Rattle.std.proofs.Common.{◌∷◌, ap, ◌∙◌, map}
use Rattle.wide_forms.specs.Items.{items}
use Rattle.wide_unit.specs.Unit.{item_of}
use Rattle.wide_forms.specs.Laws.WellFormed.{no_first_fault, well_formed-rest}
use Rattle.wide_utfstr.proofs.view.UtfStr.split_first_char.Goals as goal

pub invariant_of-result : goal.invariant_of-result
invariant_of-result g c =
    let form = g.C.Unit.form in
    let number = g.C.Unit.number in
    let rest = map number c.in_ok-item.rest.now in
    record { well_formed = well_formed-rest form (map number c.args.self.units.now) rest c.args.self.well_formed c.in-Ok.c (c.in_ok-item.ensures.some ∙ ap (λ r. item_of number r ∷ items form rest) c.in-Ok.is) }

pub unreachable-requires : goal.unreachable-requires
unreachable-requires g c =
    let form = g.C.Unit.form in
    let number = g.C.Unit.number in
    let rest = map number c.in_ok-item.rest.now in
    no_first_fault form (map number c.args.self.units.now) rest c.args.self.well_formed (number c.in_default.field-0) (c.in_ok-item.ensures.some ∙ ap (λ r. item_of number r ∷ items form rest) c.in_default.is)
