use Rattle.std.proofs.Common.{rules, ◌≡◌, ◌∷◌, ◌+◌, ◌-◌, length, map, drop}
use Rattle.wide_forms.specs.Items.{items}
use Rattle.wide_forms.specs.Segmentation.{item_units}
use Rattle.wide_unit.specs.Unit.{item_of}
use Rattle.wide_search.proofs.Members.{none-left, first-left}
use Rattle.wide_search.proofs.sets.find_in_set.Goals as goal

pub returns-in_default-clause-none : goal.returns-in_default-clause-none
returns-in_default-clause-none g c =
    none-left g.C.Unit.form g.C.Unit.number (g.S.CharSet.has c.args.set) c.args.units.now c.prefix_of_set-start.result c.prefix_of_set-start.ensures.longest (search rules)

pub returns-clause-first : goal.returns-clause-first
returns-clause-first g c =
    let form = g.C.Unit.form in
    let number = g.C.Unit.number in
    let us = c.args.units.now in
    let start = c.prefix_of_set-start.result in
    let others = c.in-Some.others.now in
    let item = item_of number c.in-Some.field-0-0 in
    let next : items form (map number (drop start us)) ≡ item ∷ items form (map number others) = search rules in
    let long : length others + length (item_units form item) ≡ length us - start = search rules in
    first-left form number (g.S.CharSet.has c.args.set) us start c.prefix_of_set-start.ensures.longest others item next long c.prefix_of_set-start.ensures.within
