use Rattle.std.proofs.Common.{◌≡◌, ◌∙◌, sym, ap, arith, subst, map, drop}
use Rattle.std.proofs.lemmas.List.{length-map, drop-map}
use Rattle.wide_forms.specs.EncodingForm.{code_units}
use Rattle.wide_search.specs.Occurrences.{IsFirstAt, OccursNowhere}
use Rattle.wide_search.specs.Laws.Occurrences.{first-from, nowhere-from}
use Rattle.wide_search.proofs.chars.find_char_from.Goals as goal

pub returns-in_default-clause-none : goal.returns-in_default-clause-none
returns-in_default-clause-none g c =
    let number = g.C.Unit.number in
    let us = c.args.units.now in
    let needle = code_units g.C.Unit.form c.args.c in
    let rest : map number c.split_at.result.1.now ≡ drop c.args.from (map number us) = ap (map number) c.split_at.ensures.back ∙ sym (drop-map number c.args.from us) in
    nowhere-from needle (map number us) c.args.from (subst (OccursNowhere needle) rest c.in_default.ensures.none)

pub returns-clause-first : goal.returns-clause-first
returns-clause-first g c =
    let number = g.C.Unit.number in
    let us = c.args.units.now in
    let needle = code_units g.C.Unit.form c.args.c in
    let rest : map number c.split_at.result.1.now ≡ drop c.args.from (map number us) = ap (map number) c.split_at.ensures.back ∙ sym (drop-map number c.args.from us) in
    first-from needle (map number us) c.args.from c.in-Some.at (omega (arith, c.if-units-from.false, length-map us number)) (subst (λ xs. IsFirstAt needle xs c.in-Some.at) rest c.in-Some.ensures.first)
