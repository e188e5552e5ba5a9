use Rattle.std.proofs.Common.{◌≡◌, ◌∷◌, ◌++◌, [], map, ap, ◌∙◌, arith}
use Rattle.std.proofs.lemmas.List.{append-nil}
use Rattle.wide_forms.specs.Segmentation.{Char, Fault}
use Rattle.wide_forms.specs.Items.{items, characters}
use Rattle.wide_forms.specs.Laws.Policies.{characters-append}
use Rattle.wide_unit.specs.Unit.{item_of}
use Rattle.wide_ustr.proofs.lossy_with.CharsLossyWith.last_character.Goals as goal

pub returns-in-Ok-clause-last : goal.returns-in-Ok-clause-last
returns-in-Ok-clause-last g c =
    let form = g.C.Unit.form in
    let number = g.C.Unit.number in
    let prefix = items form (map number c.in-Some.rest.now) in
    let end : items form (map number c.loop-rest.self.rest.now) ≡ prefix ++ Char c.in-Ok.c ∷ [] = c.in-Some.ensures.some ∙ ap (λ r. prefix ++ item_of number r ∷ []) c.in-Ok.is in
    c.loop-rest.invariant.0 ∙ ap characters end ∙ characters-append prefix (Char c.in-Ok.c ∷ [])

pub loop-rest-preserved : goal.loop-rest-preserved
loop-rest-preserved g c =
    let form = g.C.Unit.form in
    let number = g.C.Unit.number in
    let prefix = items form (map number c.in-Some.rest.now) in
    let end : items form (map number c.loop-rest.self.rest.now) ≡ prefix ++ Fault (number c.in_default-item.field-0) ∷ [] = c.in-Some.ensures.some ∙ ap (λ r. prefix ++ item_of number r ∷ []) c.in_default-item.is in
    (c.loop-rest.invariant.0 ∙ ap characters end ∙ characters-append prefix (Fault (number c.in_default-item.field-0) ∷ []) ∙ append-nil (characters prefix), c.loop-rest.invariant.1, omega (arith, c.loop-rest.invariant.2, c.in-Some.ensures.shorter))
