use Rattle.std.proofs.lemmas.Grind.{common_steps}
use Rattle.std.proofs.Common.{◌≡◌, ◌-◌, [], length, map, take, arith, ap, subst, sym, ◌∙◌, length-append, eqb}
use Rattle.std.proofs.lemmas.Bool.{eqb-true, false≢true}
use Rattle.std.proofs.lemmas.List.{take_all, nil_from_length}
use Rattle.wide_forms.specs.Lines.{lines_of, IsFirstLine}
use Rattle.wide_unit.proofs.Back.{same_last, last_rest}
use Rattle.wide_unit.proofs.Front.{first_of_nil}
use Rattle.wide_unit.proofs.Feeds.{first_line-whole, first_line-feed, first_line-return}
use Rattle.wide_unit.proofs.line.split_line.Goals as goal
use Rattle.wide_unit.proofs.line.split_line.Goals.{in_default-2, in-len1-up+else-code-eq13}

pub returns-then-is_empty-clause-no_lines : goal.returns-then-is_empty-clause-no_lines
returns-then-is_empty-clause-no_lines g c = ap lines_of (first_of_nil g.C.Unit.form g.C.Unit.number c.args.units.now (nil_from_length c.args.units.now (eqb-true (length c.args.units.now) 0 (sym c.if-is_empty.ensures))))

pub returns-in_default-clause-first : goal.returns-in_default-clause-first
returns-in_default-clause-first g c =
    let form = g.C.Unit.form in
    let number = g.C.Unit.number in
    let xs = c.args.units.now in
    let line : c.split_at.result.0.now ≡ xs = c.split_at.ensures.front ∙ take_all (length xs) xs (omega arith) in
    let rest : c.split_at.result.1.now ≡ [] = nil_from_length c.split_at.result.1.now (omega (arith, c.split_at.ensures.back_len)) in
    let whole : IsFirstLine form (map number xs) (map number xs) [] = first_line-whole form number xs (λ e. let zero : length xs ≡ 0 = ap length e in absurd (false≢true (c.if-is_empty.ensures ∙ ap (λ n. eqb n 0) zero))) c.in_default.ensures.none in
    subst (λ ls. IsFirstLine form (map number xs) (map number ls) (map number c.split_at.result.1.now)) (sym line) (subst (λ rs. IsFirstLine form (map number xs) (map number xs) (map number rs)) (sym rest) whole)

pub returns-then-code-eq13-clause-first : goal.returns-then-code-eq13-clause-first
returns-then-code-eq13-clause-first g c =
    let form = g.C.Unit.form in
    let number = g.C.Unit.number in
    let xs = c.args.units.now in
    let offset = c.in-Some.offset in
    let line = take (length (take offset xs) - 1) (take offset xs) in
    subst (λ rs. IsFirstLine form (map number xs) (map number line) (map number rs)) (sym c.split_at-2.ensures.back)
    (first_line-return form number xs offset c.in-Some.ensures.within c.in-Some.ensures.at c.in-Some.ensures.before c.last-item.result c.in-len1-up.len_at_least c.last-item.is (sym c.code.ensures ∙ c.if-code-eq13.true))

pub returns-clause-first : goal.returns-clause-first
returns-clause-first g c =
    let form = g.C.Unit.form in
    let number = g.C.Unit.number in
    let xs = c.args.units.now in
    let offset = c.in-Some.offset in
    subst (λ rs. IsFirstLine form (map number xs) (map number (take offset xs)) (map number rs)) (sym c.split_at-2.ensures.back)
    (first_line-feed form number xs offset c.in-Some.ensures.within c.in-Some.ensures.at c.in-Some.ensures.before (λ prefix x e return. elim c.if-units-offset-lt1.branch [
      | in_default-2 w ↦ omega (arith, w.in_default-2.len_below, ap length e, simp length-append at (ap length e))
      | in-len1-up+else-code-eq13 w ↦
          let same = same_last (take offset xs) prefix x w.last-item.result e (last_rest (take offset xs) w.last-item.result w.in-len1-up.len_at_least w.last-item.is) in
          w.if-code-eq13.false (w.code.ensures ∙ ap number (sym same) ∙ return)
    ]))

pub returns-in_default-clause-line : goal.returns-in_default-clause-line
returns-in_default-clause-line g c = grind (arith, common_steps)

pub returns-in_default-clause-rest : goal.returns-in_default-clause-rest
returns-in_default-clause-rest g c = grind (arith, common_steps)

pub returns-in_default-clause-shorter : goal.returns-in_default-clause-shorter
returns-in_default-clause-shorter g c = grind (arith, common_steps)

pub returns-then-code-eq13-clause-line : goal.returns-then-code-eq13-clause-line
returns-then-code-eq13-clause-line g c = grind (arith, common_steps)

pub returns-then-code-eq13-clause-rest : goal.returns-then-code-eq13-clause-rest
returns-then-code-eq13-clause-rest g c = grind (arith, common_steps)

pub returns-then-code-eq13-clause-shorter : goal.returns-then-code-eq13-clause-shorter
returns-then-code-eq13-clause-shorter g c = grind (arith, common_steps)

pub returns-clause-line : goal.returns-clause-line
returns-clause-line g c = grind (arith, common_steps)

pub returns-clause-rest : goal.returns-clause-rest
returns-clause-rest g c = grind (arith, common_steps)

pub returns-clause-shorter : goal.returns-clause-shorter
returns-clause-shorter g c = grind (arith, common_steps)
