use Rattle.std.proofs.Common.{◌≡◌, ◌∷◌, map, ap, sym, ◌∙◌}
use Rattle.std.specs.Prelude.{is_some}
use Rattle.wide_forms.specs.Segmentation.{Fault}
use Rattle.wide_forms.specs.Items.{items}
use Rattle.wide_unit.specs.Unit.{item_of}
use Rattle.wide_ustr.proofs.FaultRuns.{run_next}
use Rattle.wide_ustr.proofs.lossy_with.CharsLossyWithIterator.next.Goals as goal

pub returns-then-is_none-clause-steps : goal.returns-then-is_none-clause-steps
returns-then-is_none-clause-steps g c =
    let form = g.C.Unit.form in
    let number = g.C.Unit.number in
    let tail = items form (map number c.in_ok-item.rest.now) in
    let u = number c.in_default.field-0 in
    let head : items form (map number c.args.self.now.rest.now) ≡ Fault u ∷ tail = c.in_ok-item.ensures.some ∙ ap (λ r. item_of number r ∷ tail) c.in_default.is in
    run_next c.args.self.now.policy (items form (map number c.args.self.now.rest.now)) tail (items form (map number c.after_faults-self.result.now)) u c.in-Some.c (sym c.replacement.ensures ∙ c.in-Some.is)
    (ap is_some (sym c.replacement-2.ensures) ∙ c.if-is_none.ensures) head c.after_faults-self.ensures.run
