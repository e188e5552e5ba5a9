use Rattle.wide_schemes.specs.Wtf8Laws.{utf8-of_well_formed, well_formed-of_utf8}
use Rattle.wide_wtf8.proofs.UnitsOfSlices.{all-units}
use Rattle.wide_wtf8.proofs.laws.text_is_utf8.Goals as goal

pub returns : goal.returns
returns c =
    let us = c.args.units.now in
    (λ text. well_formed-of_utf8 us (all-units us c.type_inv.units) text, λ well. utf8-of_well_formed us well)
