use Rattle.std.proofs.Common.{◌≡◌, ◌∷◌, map, ap, ◌∙◌, arith}
use Rattle.wide_forms.specs.Segmentation.{Fault}
use Rattle.wide_forms.specs.Items.{items}
use Rattle.wide_unit.specs.Unit.{item_of}
use Rattle.wide_ustr.proofs.FaultRuns.{one_more_first}
use Rattle.wide_ustr.proofs.lossy_with.after_faults.Goals as goal

pub loop-tail-preserved : goal.loop-tail-preserved
loop-tail-preserved g c =
    let form = g.C.Unit.form in
    let number = g.C.Unit.number in
    let run = c.in-Some-Err-default in
    let head : items form (map number c.loop-tail.rest.now) ≡ Fault (number run.field-0-0-0) ∷ items form (map number run.tail.now) = run.ensures.some ∙ ap (λ r. item_of number r ∷ items form (map number run.tail.now)) run.field-0-0-is in
    (omega (arith, c.loop-tail.invariant.0, run.ensures.shorter), one_more_first (items form (map number c.args.units.now)) (items form (map number c.loop-tail.rest.now)) (items form (map number run.tail.now)) (number run.field-0-0-0) c.loop-tail.invariant.1 head)
