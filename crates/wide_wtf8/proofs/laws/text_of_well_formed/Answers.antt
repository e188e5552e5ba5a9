use Rattle.wide_schemes.specs.Wtf8Laws.{utf8-of_well_formed, well_formed-of_utf8, wtf8-well_formed}
use Rattle.wide_wtf8.proofs.laws.text_of_well_formed.Goals as goal

pub returns-clause-utf8 : goal.returns-clause-utf8
returns-clause-utf8 c = λ us units. (λ text. well_formed-of_utf8 us units text, λ well. utf8-of_well_formed us well)

pub returns-clause-characters : goal.returns-clause-characters
returns-clause-characters c = wtf8-well_formed
