use Rattle.std.proofs.Common.{◌∷◌, [], ◌∙◌, sym, ap, subst}
use Rattle.std.specs.Prelude.{map}
use Rattle.std.proofs.lemmas.Option.{IfSome_then}
use Rattle.wide_search.specs.Occurrences.{IsLastAt, OccursNowhere}
use Rattle.wide_search.specs.Sought.{units_of_few, first_and}
use Rattle.wide_search.specs.Laws.Numbers.{last-numbers, nowhere-numbers}
use Rattle.wide_search.proofs.Offsets.{none-then}
use Rattle.wide_search.proofs.chars.rfind_char.Goals as goal

pub returns-in-None-clause-last : goal.returns-in-None-clause-last
returns-in-None-clause-last g c =
    let number = g.C.Unit.number in
    let few = c.of_char-few.result in
    let units = sym (ap (first_and few.first) c.in-None.is) in
    IfSome_then c.rfind_one.result c.rfind_one.ensures.last (λ at is.
    subst (λ us. IsLastAt us (map number c.args.units.now) at) (ap (map number) units ∙ c.of_char-few.ensures) (last-numbers number g.met.C.Unit.same (few.first ∷ []) c.args.units.now at is))

pub returns-in-None-clause-none : goal.returns-in-None-clause-none
returns-in-None-clause-none g c =
    let number = g.C.Unit.number in
    let few = c.of_char-few.result in
    let units = sym (ap (first_and few.first) c.in-None.is) in
    none-then c.rfind_one.result c.rfind_one.ensures.none (λ none.
    subst (λ us. OccursNowhere us (map number c.args.units.now)) (ap (map number) units ∙ c.of_char-few.ensures) (nowhere-numbers number g.met.C.Unit.same (few.first ∷ []) c.args.units.now none))

pub returns-in-Some-clause-last : goal.returns-in-Some-clause-last
returns-in-Some-clause-last g c =
    let number = g.C.Unit.number in
    IfSome_then c.rfind_in.result c.rfind_in.ensures.last (λ at is.
    subst (λ us. IsLastAt us (map number c.args.units.now) at) c.of_char-few.ensures (last-numbers number g.met.C.Unit.same (units_of_few c.of_char-few.result) c.args.units.now at is))

pub returns-in-Some-clause-none : goal.returns-in-Some-clause-none
returns-in-Some-clause-none g c =
    let number = g.C.Unit.number in
    none-then c.rfind_in.result c.rfind_in.ensures.none (λ none.
    subst (λ us. OccursNowhere us (map number c.args.units.now)) c.of_char-few.ensures (nowhere-numbers number g.met.C.Unit.same (units_of_few c.of_char-few.result) c.args.units.now none))
