use Rattle.std.proofs.lemmas.Grind.{common_steps}
use Rattle.wide_unit.proofs.Front.{first_of_nil}
use Rattle.std.proofs.lemmas.List.{nil_from_length}
use Rattle.std.proofs.Common.{◌∷◌, [], ◌++◌, ◌-◌, length, take, arith, ap, ◌∙◌, append_assoc}
use Rattle.std.proofs.lemmas.List.{length_push}
use Rattle.wide_forms.specs.EncodingForm.{IsFault, IsPair}
use Rattle.wide_unit.proofs.Back.{last_rest, same_last, items-last_char, items-last_pair, items-last_fault}
use Rattle.wide_unit.proofs.split.split_last.Goals as goal
use Rattle.wide_unit.proofs.split.split_last.Goals.{in_default-prefix, in-len1-up-prefix+in_default-pair_scalar}

pub returns-in-Some-clause-some : goal.returns-in-Some-clause-some
returns-in-Some-clause-some g c =
    let xs = c.args.units.now in
    items-last_char g.C.Unit.form g.C.Unit.number xs _ c.last-item.result c.in-Some.c (last_rest xs c.last-item.result c.in-len1-up.len_at_least c.last-item.is) c.in-Some.ensures.0 c.in-Some.ensures.1

pub returns-in-Some-pair_scalar-clause-some : goal.returns-in-Some-pair_scalar-clause-some
returns-in-Some-pair_scalar-clause-some g c =
    let xs = c.args.units.now in
    let prefix = take (length xs - 1) xs in
    let head = take (length prefix - 1) prefix in
    let split = last_rest xs c.last-item.result c.in-len1-up.len_at_least c.last-item.is in
    let before = last_rest prefix c.first-item.result c.in-len1-up-prefix.len_at_least c.first-item.is in
    items-last_pair g.C.Unit.form g.C.Unit.number xs head c.first-item.result c.last-item.result c.in-Some-pair_scalar.c
    (split ∙ ap (λ ys. ys ++ c.last-item.result ∷ []) before ∙ append_assoc head (c.first-item.result ∷ []) (c.last-item.result ∷ [])) c.in-Some-pair_scalar.ensures.0 c.in-Some-pair_scalar.ensures.1

pub returns-after-prefix-lt1-clause-some : goal.returns-after-prefix-lt1-clause-some
returns-after-prefix-lt1-clause-some g c =
    let form = g.C.Unit.form in
    let number = g.C.Unit.number in
    let xs = c.args.units.now in
    let x = c.last-item.result in
    let prefix = take (length xs - 1) xs in
    let split = last_rest xs x c.in-len1-up.len_at_least c.last-item.is in
    let fault : IsFault form (number x) = c.in_default.ensures in
    elim c.if-prefix-lt1.branch [
      | in_default-prefix w ↦ items-last_fault form number xs prefix x split fault (λ ys y e pair. omega (arith, w.in_default-prefix.len_below, ap length e, length_push ys y))
      | in-len1-up-prefix+in_default-pair_scalar w ↦ items-last_fault form number xs prefix x split fault (λ ys y e pair.
          let apart : ¬ (IsPair form (number w.first-item.result) (number x)) = w.in_default-pair_scalar.ensures in
          apart (rw (same_last prefix ys y w.first-item.result e (last_rest prefix w.first-item.result w.in-len1-up-prefix.len_at_least w.first-item.is)) at pair))
    ]

pub returns-in-empty-clause-no_items : goal.returns-in-empty-clause-no_items
returns-in-empty-clause-no_items g c = first_of_nil g.C.Unit.form g.C.Unit.number c.args.units.now (nil_from_length c.args.units.now (omega arith))

pub returns-in-Some-clause-rest : goal.returns-in-Some-clause-rest
returns-in-Some-clause-rest g c = grind (arith, common_steps)

pub returns-in-Some-clause-length : goal.returns-in-Some-clause-length
returns-in-Some-clause-length g c = grind (arith, common_steps)

pub returns-in-Some-clause-shorter : goal.returns-in-Some-clause-shorter
returns-in-Some-clause-shorter g c = grind (arith, common_steps)

pub returns-in-Some-pair_scalar-clause-rest : goal.returns-in-Some-pair_scalar-clause-rest
returns-in-Some-pair_scalar-clause-rest g c = grind (arith, common_steps)

pub returns-in-Some-pair_scalar-clause-length : goal.returns-in-Some-pair_scalar-clause-length
returns-in-Some-pair_scalar-clause-length g c = grind (arith, common_steps)

pub returns-in-Some-pair_scalar-clause-shorter : goal.returns-in-Some-pair_scalar-clause-shorter
returns-in-Some-pair_scalar-clause-shorter g c = grind (arith, common_steps)

pub returns-after-prefix-lt1-clause-rest : goal.returns-after-prefix-lt1-clause-rest
returns-after-prefix-lt1-clause-rest g c = grind (arith, common_steps)

pub returns-after-prefix-lt1-clause-length : goal.returns-after-prefix-lt1-clause-length
returns-after-prefix-lt1-clause-length g c = grind (arith, common_steps)

pub returns-after-prefix-lt1-clause-shorter : goal.returns-after-prefix-lt1-clause-shorter
returns-after-prefix-lt1-clause-shorter g c = grind (arith, common_steps)
