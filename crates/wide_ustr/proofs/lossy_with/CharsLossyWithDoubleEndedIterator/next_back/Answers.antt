use Rattle.std.proofs.Common.{◌≡◌, ◌∷◌, ◌++◌, [], map, ap, sym, ◌∙◌}
use Rattle.std.specs.Prelude.{is_some}
use Rattle.wide_forms.specs.Segmentation.{Char, Fault}
use Rattle.wide_forms.specs.Items.{items}
use Rattle.wide_unit.specs.Unit.{item_of}
use Rattle.wide_ustr.proofs.FaultRuns.{last_char, run_next_back, skip_back}
use Rattle.wide_ustr.proofs.lossy_with.CharsLossyWithDoubleEndedIterator.next_back.Goals as goal

pub returns-in-Ok-clause-steps : goal.returns-in-Ok-clause-steps
returns-in-Ok-clause-steps g c =
    let form = g.C.Unit.form in
    let number = g.C.Unit.number in
    let prefix = items form (map number c.in_ok-rest.rest.now) in
    let end : items form (map number c.args.self.now.rest.now) ≡ prefix ++ Char c.in-Ok.last ∷ [] = c.in_ok-rest.ensures.some ∙ ap (λ r. prefix ++ item_of number r ∷ []) c.in-Ok.is in
    last_char c.args.self.now.policy (items form (map number c.args.self.now.rest.now)) prefix c.in-Ok.last end

pub returns-in_default-replacement-clause-steps : goal.returns-in_default-replacement-clause-steps
returns-in_default-replacement-clause-steps g c =
    let form = g.C.Unit.form in
    let number = g.C.Unit.number in
    let prefix = items form (map number c.in_ok-rest.rest.now) in
    let u = number c.in_default.field-0 in
    let end : items form (map number c.args.self.now.rest.now) ≡ prefix ++ Fault u ∷ [] = c.in_ok-rest.ensures.some ∙ ap (λ r. prefix ++ item_of number r ∷ []) c.in_default.is in
    skip_back c.args.self.now.policy c.last_character.new.self.policy (items form (map number c.args.self.now.rest.now)) prefix (items form (map number c.last_character.new.self.rest.now)) u c.last_character.result
    (sym c.replacement.ensures ∙ c.in_default-replacement.is) c.last_character.ensures.policy end c.last_character.ensures.last

pub returns-then-is_none-clause-steps : goal.returns-then-is_none-clause-steps
returns-then-is_none-clause-steps g c =
    let form = g.C.Unit.form in
    let number = g.C.Unit.number in
    let prefix = items form (map number c.in_ok-rest.rest.now) in
    let u = number c.in_default.field-0 in
    let end : items form (map number c.args.self.now.rest.now) ≡ prefix ++ Fault u ∷ [] = c.in_ok-rest.ensures.some ∙ ap (λ r. prefix ++ item_of number r ∷ []) c.in_default.is in
    run_next_back c.args.self.now.policy (items form (map number c.args.self.now.rest.now)) prefix (items form (map number c.before_faults-self.result.now)) u c.in-Some.c (sym c.replacement.ensures ∙ c.in-Some.is)
    (ap is_some (sym c.replacement-2.ensures) ∙ c.if-is_none.ensures) end c.before_faults-self.ensures.run
