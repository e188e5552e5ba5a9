use Rattle.std.proofs.Common.{◌≡◌, ◌<◌, ◌≤◌, ◌+◌, ◌*◌, length, take, arith, length-take}
use Rattle.wide_forms.specs.EncodingForm.{Utf16}
use Rattle.wide_utf16_to_utf8.proofs.EncodedPrefixes.{IsPrefixText, prefix_text-units, some-encoded}
use Rattle.wide_from_units.proofs.to_utf8.utf16_to_utf8_prefix.Goals.{then-units-fitting, else-units-fitting}
use Rattle.wide_from_units.proofs.to_utf8.utf16_to_utf8_prefix.Goals as goal

pub returns : goal.returns
returns c =
    let us = c.args.units.now in
    let n = c.utf16_to_utf8_until_fault-step.result.read in
    let count = c.if-units-fitting.count in
    let fits : (count ≤ length us) × (3 * count + 4 ≤ length c.args.text.now) × (count < 2 → count ≡ length us) = elim c.if-units-fitting.branch [
      | then-units-fitting w ↦ (omega (arith, w.count-is), omega (arith, w.count-is, w.if-units-fitting, c.requires.space), λ few. w.count-is)
      | else-units-fitting w ↦ (omega (arith, w.count-is, w.if-units-fitting), omega (arith, w.count-is, c.requires.space), λ few. omega (arith, w.count-is, c.requires.space))
    ] in
    let short : n ≤ count = omega (arith, c.utf16_to_utf8_until_fault-step.ensures.read, length-take count us) in
    let split : IsPrefixText Utf16 us n (take c.utf16_to_utf8_until_fault-step.result.written c.utf16_to_utf8_until_fault-step.new.out) = prefix_text-units us n count _ c.requires.well_formed short fits.0 c.utf16_to_utf8_until_fault-step.ensures.text in
    record {
      read = omega (arith, fits.0, short);
      some = some-encoded us n count c.utf16_to_utf8_until_fault-step.result.fault c.requires.well_formed fits.0 fits.2 c.utf16_to_utf8_until_fault-step.ensures.stop;
      written = omega (arith, c.utf16_to_utf8_until_fault-step.ensures.written, c.utf16_to_utf8_until_fault-step.auto.out, short, fits.1);
      text = split.text;
      rest = split.rest;
    }
