use Rattle.std.proofs.Common.{◌≡◌, ◌∷◌, ◌++◌, [], map, ap, ◌∙◌, arith}
use Rattle.wide_forms.specs.Segmentation.{Fault}
use Rattle.wide_forms.specs.Items.{items}
use Rattle.wide_unit.specs.Unit.{item_of}
use Rattle.wide_ustr.proofs.FaultRuns.{one_more_last}
use Rattle.wide_ustr.proofs.lossy_with.before_faults.Goals as goal

pub loop-prefix-preserved : goal.loop-prefix-preserved
loop-prefix-preserved g c =
    let form = g.C.Unit.form in
    let number = g.C.Unit.number in
    let run = c.in-Some-default-Err in
    let end : items form (map number c.loop-prefix.rest.now) ≡ items form (map number run.prefix.now) ++ Fault (number run.field-0-1-0) ∷ [] = run.ensures.some ∙ ap (λ r. items form (map number run.prefix.now) ++ item_of number r ∷ []) run.field-0-1-is in
    (omega (arith, c.loop-prefix.invariant.0, run.ensures.shorter), one_more_last (items form (map number c.args.units.now)) (items form (map number c.loop-prefix.rest.now)) (items form (map number run.prefix.now)) (number run.field-0-1-0) c.loop-prefix.invariant.1 end)
