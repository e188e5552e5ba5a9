use Rattle.std.proofs.Common.{◌≡◌, ◌∷◌, ◌∙◌, ℕ, List, Result, Ok, Err, refl, sym, ap, arith, map}
use Rattle.wide_forms.specs.EncodingForm.{EncodingForm}
use Rattle.wide_forms.specs.Items.{IsWellFormed, items}
use Rattle.wide_forms.specs.Lossy.{or_replacement}
use Rattle.wide_unit.specs.Unit.{item_of}
use Rattle.wide_forms.specs.Laws.WellFormed.{no_first_fault}
use Rattle.wide_from_units.proofs.RecodedPrefixes.{IsRecoded, recoded-one}
use Rattle.wide_from_units.proofs.ScalarPrefixes.{left-beyond}
use Rattle.wide_from_units.proofs.between_forms.put_ones.Goals as goal

-- The first item of well-formed units is a character, so it is not replaced.
first-character : {C : Type 0} (form : EncodingForm) (number : C → ℕ) (us rest : List ℕ) (r : Result ℕ C) → IsWellFormed form us → items form us ≡ item_of number r ∷ items form rest → r ≡ Ok (or_replacement r)
first-character form number us rest (Ok c) well first = refl
first-character form number us rest (Err u) well first = absurd (no_first_fault form us rest well (number u) first)

pub ones-preserved : goal.ones-preserved
ones-preserved g c =
    let number = g.C.Unit.number in
    let form = g.C.Unit.form in
    let us = c.ones.rest.now in
    let others = c.in-Some.others.now in
    let rest = map number others in
    let so_far : IsRecoded number form g.D.Unit.form _ _ us = record { units = c.ones.invariant.units; well_formed = c.ones.invariant.well_formed } in
    let character = first-character form number (map number us) rest c.in-Some.item c.ones.invariant.well_formed c.in-Some.ensures.some ∙ ap Ok (sym c.or_replacement-c.ensures) in
    let first = c.in-Some.ensures.some ∙ ap (λ r. item_of number r ∷ items form rest) {x = c.in-Some.item} character in
    let prefix = recoded-one number form g.D.Unit.form _ _ _ us others c.or_replacement-c.result so_far first c.put_char-written.ensures.units in
    record {
      within = omega (arith, c.in-Some.ensures.shorter, c.ones.invariant.within);
      from = omega (arith, c.ones.invariant.from, c.put_char-written.ensures.offset);
      few = omega (arith, c.in-Some.ensures.shorter, c.ones.invariant.few, c.put_char-written.ensures.high);
      space = omega (arith, c.ones-test.true, c.put_char-written.ensures.high);
      beyond = left-beyond c.args.units.now us others _ c.ones.invariant.within c.ones.invariant.beyond c.in-Some.ensures.rest c.in-Some.ensures.length;
      units = prefix.units;
      well_formed = prefix.well_formed;
    }
