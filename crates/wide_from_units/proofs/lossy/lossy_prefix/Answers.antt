use Rattle.std.proofs.Common.{arith, false, map, refl, take}
use Rattle.wide_forms.specs.Laws.Items.{IsCut}
use Rattle.wide_from_units.proofs.LossyPrefixes.{halves, valid-state, valid-text, repaired-state, repaired-text, repaired-well_formed}
use Rattle.wide_from_units.proofs.lossy.lossy_prefix.Goals as goal

pub returns-then-valid-ge-FEW-clause-text : goal.returns-then-valid-ge-FEW-clause-text
returns-then-valid-ge-FEW-clause-text g c =
    let e = c.split_at.ensures in
    let joined = halves c.valid_len-valid.result _ _ _ e.front e.back in
    valid-text g.C.Unit.form g.C.Unit.number c.args.policy c.args.after_fault false c.args.units.now c.split_at.result.0.now c.split_at.result.1.now joined (rw e.front c.valid_len-valid.ensures.valid)
    (λ none. absurd (omega (arith, none, e.front_len, c.if-valid-ge-FEW.true))) (λ some. refl)

pub returns-then-valid-ge-FEW-clause-state : goal.returns-then-valid-ge-FEW-clause-state
returns-then-valid-ge-FEW-clause-state g c =
    let e = c.split_at.ensures in
    let joined = halves c.valid_len-valid.result _ _ _ e.front e.back in
    valid-state g.C.Unit.form g.C.Unit.number c.args.policy c.args.after_fault false c.args.units.now c.split_at.result.0.now c.split_at.result.1.now joined (rw e.front c.valid_len-valid.ensures.valid)
    (λ none. absurd (omega (arith, none, e.front_len, c.if-valid-ge-FEW.true))) (λ some. refl)

pub returns-clause-well_formed : goal.returns-clause-well_formed
returns-clause-well_formed g c = repaired-well_formed g.C.Unit.form g.C.Unit.number c.args.policy c.args.after_fault (map g.C.Unit.number (take c.lossy_prefix-progress.result.read c.args.units.now)) _ c.lossy_prefix-progress.ensures.text

pub returns-clause-text : goal.returns-clause-text
returns-clause-text g c =
    let e = c.lossy_prefix-progress.ensures in
    let now = c.lossy_prefix-progress.result.after_fault in
    let units = c.args.units.now in
    let n = c.lossy_prefix-progress.result.read in
    let rest = c.split_at-2.result.1.now in
    let back = c.split_at-2.ensures.back in
    let cut : IsCut g.C.Unit.form (map g.C.Unit.number (take n units)) (map g.C.Unit.number rest) = rw back e.cut in
    repaired-text g.C.Unit.form g.C.Unit.number c.args.policy c.args.after_fault now units (take n units) rest (halves n units (take n units) rest refl back) cut e.state _ e.text

pub returns-clause-state : goal.returns-clause-state
returns-clause-state g c =
    let e = c.lossy_prefix-progress.ensures in
    let now = c.lossy_prefix-progress.result.after_fault in
    let units = c.args.units.now in
    let n = c.lossy_prefix-progress.result.read in
    let rest = c.split_at-2.result.1.now in
    let back = c.split_at-2.ensures.back in
    let cut : IsCut g.C.Unit.form (map g.C.Unit.number (take n units)) (map g.C.Unit.number rest) = rw back e.cut in
    repaired-state g.C.Unit.form g.C.Unit.number c.args.policy c.args.after_fault now units (take n units) rest (halves n units (take n units) rest refl back) cut e.state
