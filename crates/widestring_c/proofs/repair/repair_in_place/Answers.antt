use Rattle.std.proofs.Common.{◌+◌, ◌<◌, refl, arith, subst, ◌∙◌, length, map, drop}
use Rattle.std.proofs.lemmas.List.{length-set}
use Rattle.wide_forms.specs.Items.{IsFirstFault, IsWellFormed}
use Rattle.wide_forms.specs.Offsets.{text_before}
use Rattle.widestring_c.proofs.FaultCounts.{none-well_formed, repaired-all, repaired-count, repaired-more, replacement-number}
use Rattle.widestring_c.proofs.repair.repair_in_place.Goals as goal

pub faults-preserved : goal.faults-preserved
faults-preserved g c =
    let form = g.C.Unit.form in
    let number = g.C.Unit.number in
    let old = c.faults.units in
    let at = c.faults.at in
    let index = c.in-Some.index in
    let r = c.encode_char-replacement.result in
    let item = text_before form number c.split_at.result.1.now index in
    let unit = number c.in-Some._unit in
    let is = replacement-number form number r.0 r.1 c.encode_char-replacement.ensures in
    let fault : IsFirstFault form (map number (drop at old)) index item unit = subst (λ xs. IsFirstFault form (map number xs) index item unit) c.split_at.ensures.back c.in-Some.ensures.some in
    let within : at + index < length old = omega (arith, c.in-Some.ensures.within, c.split_at.ensures.back_len, c.faults.invariant.within) in
    let count = repaired-count form number old at index item unit r.0 within is fault in
    record {
      within = omega (arith, within, length-set old (at + index) r.0);
      space = length-set old (at + index) r.0 ∙ c.faults.invariant.space;
      few = omega (arith, c.faults.invariant.few);
      repaired = repaired-more form number old at index item unit r.0 within is fault ∙ c.faults.invariant.repaired;
      counted = omega (arith, count, c.faults.invariant.counted);
    }

pub returns-clause-units : goal.returns-clause-units
returns-clause-units g c =
    let form = g.C.Unit.form in
    let number = g.C.Unit.number in
    let well : IsWellFormed form (map number (drop c.faults.at c.faults.units)) = subst (λ xs. IsWellFormed form (map number xs)) c.split_at.ensures.back (c.in_default.ensures.none.0 refl) in
    repaired-all form number c.faults.units c.faults.at well ∙ c.faults.invariant.repaired

pub returns-clause-count : goal.returns-clause-count
returns-clause-count g c =
    let form = g.C.Unit.form in
    let number = g.C.Unit.number in
    let well : IsWellFormed form (map number (drop c.faults.at c.faults.units)) = subst (λ xs. IsWellFormed form (map number xs)) c.split_at.ensures.back (c.in_default.ensures.none.0 refl) in
    omega (arith, none-well_formed form (map number (drop c.faults.at c.faults.units)) well, c.faults.invariant.counted)
