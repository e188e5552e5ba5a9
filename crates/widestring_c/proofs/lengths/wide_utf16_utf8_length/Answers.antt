use Rattle.std.proofs.Common.{ap, arith, length}
use Rattle.std.proofs.lemmas.List.{map-id}
use Rattle.wide_forms.specs.EncodingForm.{Utf16}
use Rattle.wide_forms.specs.Items.{chars}
use Rattle.wide_forms.specs.Utf8.{utf8}
use Rattle.widestring_c.proofs.Fits.{bytes-well_formed}
use Rattle.widestring_c.proofs.lengths.wide_utf16_utf8_length.Goals as goal

pub returns-in-None-clause-len : goal.returns-in-None-clause-len
returns-in-None-clause-len c well = omega (arith, c.utf8_len.ensures, ap (λ us. length (utf8 (chars Utf16 us))) (map-id c.args.units.now), bytes-well_formed Utf16 c.args.units.now well)

pub returns-in-None-clause-no_fault : goal.returns-in-None-clause-no_fault
returns-in-None-clause-no_fault c well = omega (arith, c.utf8_len.ensures, ap (λ us. length (utf8 (chars Utf16 us))) (map-id c.args.units.now), bytes-well_formed Utf16 c.args.units.now well)
