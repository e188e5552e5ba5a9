use Rattle.std.proofs.Common.{◌≡◌, ◌-◌, ◌∷◌, map, length, ap, subst, arith, refl, ◌∙◌}
use Rattle.std.proofs.lemmas.List.{length-map}
use Rattle.wide_forms.specs.Items.{items, IsFirstFault}
use Rattle.wide_forms.specs.Offsets.{text_before}
use Rattle.wide_forms.specs.Segmentation.{Char, Fault}
use Rattle.wide_unit.specs.Unit.{item_of}
use Rattle.wide_unit.proofs.Front.{first_of_nil}
use Rattle.wide_unit.proofs.Faults.{first_fault-not_well_formed}
use Rattle.wide_unit.proofs.Prefixes.{chars-more}
use Rattle.wide_unit.proofs.Whole.{chars-end, chars-fault}
use Rattle.wide_unit.proofs.validation.find_fault.Goals as goal

pub returns-in-Err-clause-some : goal.returns-in-Err-clause-some
returns-in-Err-clause-some g c =
    let form = g.C.Unit.form in
    let number = g.C.Unit.number in
    let us = map number c.args.units.now in
    let rest = map number c.loop-item.rest.now in
    let head : items form rest ≡ Fault (number c.in-Err.unit) ∷ items form (map number c.in-Some.tail.now) = c.in-Some.ensures.some ∙ ap (λ r. item_of number r ∷ items form (map number c.in-Some.tail.now)) c.in-Err.is in
    let index : length us - length rest ≡ length c.args.units.now - length c.loop-item.rest.now = omega (arith, length-map c.args.units.now number, length-map c.loop-item.rest.now number) in
    subst (λ n. IsFirstFault form us n (text_before form number c.args.units.now n) (number c.in-Err.unit)) index (chars-fault form us rest (number c.in-Err.unit) _ c.loop-item.invariant.1 head)

pub loop-item-preserved : goal.loop-item-preserved
loop-item-preserved g c =
    let form = g.C.Unit.form in
    let number = g.C.Unit.number in
    let us = map number c.args.units.now in
    let rest = map number c.loop-item.rest.now in
    let head : items form rest ≡ Char c.in_default-item.field-0 ∷ items form (map number c.in-Some.tail.now) = c.in-Some.ensures.some ∙ ap (λ r. item_of number r ∷ items form (map number c.in-Some.tail.now)) c.in_default-item.is in
    (omega (arith, c.in-Some.ensures.shorter), chars-more form us rest _ _ c.loop-item.invariant.1 head)

pub returns-in-Err-clause-none : goal.returns-in-Err-clause-none
returns-in-Err-clause-none g c =
    (λ none. absurd cc, λ well. absurd (first_fault-not_well_formed g.C.Unit.form (map g.C.Unit.number c.args.units.now) _ _ (g.C.Unit.number c.in-Err.unit) (returns-in-Err-clause-some g c) well))

pub returns-clause-none : goal.returns-clause-none
returns-clause-none g c =
    let form = g.C.Unit.form in
    let number = g.C.Unit.number in
    (λ _. chars-end form (map number c.args.units.now) (map number c.loop-item.rest.now) c.loop-item.invariant.1 (first_of_nil form number c.loop-item.rest.now (c.in_default.ensures.none.0 refl)), λ _. refl)
