use Rattle.std.proofs.Common.{ap, arith, length}
use Rattle.std.proofs.lemmas.List.{map-id}
use Rattle.wide_forms.specs.EncodingForm.{Utf32}
use Rattle.wide_forms.specs.Items.{chars}
use Rattle.wide_forms.specs.Laws.Utf32.{encode32}
use Rattle.widestring_c.proofs.Fits.{units-between}
use Rattle.widestring_c.proofs.lengths.wide_utf32_char_count.Goals as goal

pub returns-in-None-clause-no_fault : goal.returns-in-None-clause-no_fault
returns-in-None-clause-no_fault c well =
    let us = c.args.units.now in
    omega (arith, c.char_count.ensures, ap (λ vs. length (chars Utf32 vs)) (map-id us), units-between Utf32 Utf32 us well, ap length (encode32 (chars Utf32 us)))
