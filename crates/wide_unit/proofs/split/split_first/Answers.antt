use Rattle.std.proofs.lemmas.Grind.{common_steps}
use Rattle.std.proofs.lemmas.List.{nil_from_length}
use Rattle.std.proofs.Common.{◌∷◌, ◌-◌, length, take, drop, arith, ap, ◌∙◌}
use Rattle.wide_forms.specs.EncodingForm.{IsFault, IsPair}
use Rattle.wide_unit.proofs.Front.{first_rest, same_first, first_of_nil, items-first_char, items-first_pair, items-first_fault}
use Rattle.wide_unit.proofs.split.split_first.Goals as goal
use Rattle.wide_unit.proofs.split.split_first.Goals.{in_default-rest, in-len1-up-rest+in_default-pair_scalar}

pub returns-in-Some-clause-some : goal.returns-in-Some-clause-some
returns-in-Some-clause-some g c =
    let xs = c.args.units.now in
    items-first_char g.C.Unit.form g.C.Unit.number xs c.first-item.result _ c.in-Some.c (first_rest xs c.first-item.result c.in-len1-up.len_at_least c.first-item.is) c.in-Some.ensures.0 c.in-Some.ensures.1

pub returns-in-Some-pair_scalar-clause-some : goal.returns-in-Some-pair_scalar-clause-some
returns-in-Some-pair_scalar-clause-some g c =
    let xs = c.args.units.now in
    let rest = take (length xs - 1) (drop 1 xs) in
    let split = first_rest xs c.first-item.result c.in-len1-up.len_at_least c.first-item.is in
    let next = first_rest rest c.second-item.result c.in-len1-up-rest.len_at_least c.second-item.is in
    items-first_pair g.C.Unit.form g.C.Unit.number xs c.first-item.result c.second-item.result _ c.in-Some-pair_scalar.c (split ∙ ap (λ ys. c.first-item.result ∷ ys) next) c.in-Some-pair_scalar.ensures.0 c.in-Some-pair_scalar.ensures.1

pub returns-after-rest-lt1-clause-some : goal.returns-after-rest-lt1-clause-some
returns-after-rest-lt1-clause-some g c =
    let form = g.C.Unit.form in
    let number = g.C.Unit.number in
    let xs = c.args.units.now in
    let x = c.first-item.result in
    let rest = take (length xs - 1) (drop 1 xs) in
    let split = first_rest xs x c.in-len1-up.len_at_least c.first-item.is in
    let fault : IsFault form (number x) = c.in_default.ensures in
    elim c.if-rest-lt1.branch [
      | in_default-rest w ↦ items-first_fault form number xs x rest split fault (λ y tail e pair. omega (arith, w.in_default-rest.len_below, ap length e))
      | in-len1-up-rest+in_default-pair_scalar w ↦ items-first_fault form number xs x rest split fault (λ y tail e pair.
          let apart : ¬ (IsPair form (number x) (number w.second-item.result)) = w.in_default-pair_scalar.ensures in
          apart (rw (same_first rest y w.second-item.result tail e w.second-item.is) at pair))
    ]

pub returns-in-empty-clause-no_items : goal.returns-in-empty-clause-no_items
returns-in-empty-clause-no_items g c = first_of_nil g.C.Unit.form g.C.Unit.number c.args.units.now (nil_from_length c.args.units.now (omega arith))

pub returns-in-Some-clause-rest : goal.returns-in-Some-clause-rest
returns-in-Some-clause-rest g c = grind (arith, common_steps)

pub returns-in-Some-clause-length : goal.returns-in-Some-clause-length
returns-in-Some-clause-length g c = grind (arith, common_steps)

pub returns-in-Some-clause-shorter : goal.returns-in-Some-clause-shorter
returns-in-Some-clause-shorter g c = grind (arith, common_steps)

pub returns-in-Some-pair_scalar-clause-rest : goal.returns-in-Some-pair_scalar-clause-rest
returns-in-Some-pair_scalar-clause-rest g c = grind (arith, common_steps)

pub returns-in-Some-pair_scalar-clause-length : goal.returns-in-Some-pair_scalar-clause-length
returns-in-Some-pair_scalar-clause-length g c = grind (arith, common_steps)

pub returns-in-Some-pair_scalar-clause-shorter : goal.returns-in-Some-pair_scalar-clause-shorter
returns-in-Some-pair_scalar-clause-shorter g c = grind (arith, common_steps)

pub returns-after-rest-lt1-clause-rest : goal.returns-after-rest-lt1-clause-rest
returns-after-rest-lt1-clause-rest g c = grind (arith, common_steps)

pub returns-after-rest-lt1-clause-length : goal.returns-after-rest-lt1-clause-length
returns-after-rest-lt1-clause-length g c = grind (arith, common_steps)

pub returns-after-rest-lt1-clause-shorter : goal.returns-after-rest-lt1-clause-shorter
returns-after-rest-lt1-clause-shorter g c = grind (arith, common_steps)
