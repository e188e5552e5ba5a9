use Rattle.std.proofs.Common.{◌≡◌, ◌+◌, suc, refl, arith, ap, sym, ◌∙◌, map, drop}
use Rattle.std.proofs.lemmas.List.{drop-map}
use Rattle.wide_forms.specs.Items.{items}
use Rattle.wide_forms.specs.Offsets.{text_before}
use Rattle.wide_convert.specs.Texts.{faults_in}
use Rattle.widestring_c.proofs.FaultCounts.{first_fault-count, none-well_formed}
use Rattle.widestring_c.proofs.fault_counts.count_faults.Goals as goal

pub faults-preserved : goal.faults-preserved
faults-preserved g c =
    let form = g.C.Unit.form in
    let number = g.C.Unit.number in
    let old = c.faults.rest.now in
    let index = c.in-Some.index in
    let back : drop (index + 1) (map number old) ≡ map number c.split_at.result.1.now = drop-map number (index + 1) old ∙ sym (ap (map number) c.split_at.ensures.back) in
    let count : faults_in (items form (map number old)) ≡ suc (faults_in (items form (map number c.split_at.result.1.now))) =
    first_fault-count form (map number old) index (text_before form number old index) (number c.in-Some._unit) c.in-Some.ensures.some ∙ ap (λ us. suc (faults_in (items form us))) back
    in
    record {
      counted = omega (arith, count, c.faults.invariant.counted);
      few = omega (arith, c.split_at.ensures.back_len, c.faults.invariant.few);
    }

pub returns-clause-count : goal.returns-clause-count
returns-clause-count g c =
    let none = none-well_formed g.C.Unit.form (map g.C.Unit.number c.faults.rest.now) (c.in_default.ensures.none.0 refl) in
    omega (arith, none, c.faults.invariant.counted)
