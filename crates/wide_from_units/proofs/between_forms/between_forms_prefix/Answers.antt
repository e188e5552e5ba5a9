use Rattle.std.proofs.Common.{◌+◌, ◌-◌, arith, drop, map, take}
use Rattle.wide_forms.specs.EncodingForm.{encode}
use Rattle.wide_forms.specs.Items.{chars}
use Rattle.wide_from_units.proofs.RecodedPrefixes.{IsRecoded, recoded-beyond, recoded-block, well_formed-beyond}
use Rattle.wide_from_units.proofs.between_forms.between_forms_prefix.Goals as goal

pub prefixes-preserved-then-are_plain : goal.prefixes-preserved-then-are_plain
prefixes-preserved-then-are_plain g c =
    let number = g.C.Unit.number in
    let from = g.C.Unit.form in
    let to = g.D.Unit.form in
    let us = c.args.units.now in
    let read = c.prefixes.read in
    let is = c.if-are_plain.true in
    let all = encode to (chars from (map number us)) in
    let made = map g.D.Unit.number (take c.prefixes.written c.prefixes.out) in
    let after = map g.D.Unit.number (take (c.prefixes.written + 16) c.put_plain.new.out) in
    let so_far : IsRecoded number from to all made (drop read us) = record { units = c.prefixes.invariant.units; well_formed = c.prefixes.invariant.rest } in
    let prefix = recoded-block number from to all made after us read (read + 16 - read) so_far (omega (arith, c.prefixes-test.true)) (omega arith) (c.are_plain.ensures.below is) (c.are_plain.ensures.characters is) c.put_plain.ensures in
    record {
      within = omega arith;
      few = omega (arith, c.prefixes.invariant.few);
      space = omega (arith, c.put_plain.auto.out);
      units = prefix.units;
      rest = prefix.well_formed;
    }

pub put_ones-step-requires-clause-well_formed : goal.put_ones-step-requires-clause-well_formed
put_ones-step-requires-clause-well_formed g c = well_formed-beyond g.C.Unit.number g.C.Unit.form g.D.Unit.form c.args.units.now c.prefixes.read c.prefixes.invariant.rest

pub prefixes-preserved : goal.prefixes-preserved
prefixes-preserved g c =
    let number = g.C.Unit.number in
    let ones = c.put_ones-step in
    let prefix = recoded-beyond number g.C.Unit.form g.D.Unit.form _ _ _ c.args.units.now c.prefixes.read ones.result.read c.prefixes.invariant.units (record { units = ones.ensures.units; well_formed = ones.ensures.rest }) in
    record {
      within = omega (arith, ones.ensures.read);
      few = omega (arith, ones.ensures.few, c.prefixes.invariant.few);
      space = omega (arith, ones.ensures.written);
      units = prefix.units;
      rest = prefix.well_formed;
    }
