use Rattle.wide_forms.specs.Laws.Encodings.{encode-take, encode-drop, encode-splice, offsets-grow}
use Rattle.wide_unit.proofs.laws.encodings_of_edits.Goals as goal

pub returns-clause-cut : goal.returns-clause-cut
returns-clause-cut c = λ form cs i. (encode-take form cs i, encode-drop form cs i)

pub returns-clause-grow : goal.returns-clause-grow
returns-clause-grow c = offsets-grow

pub returns-clause-spliced : goal.returns-clause-spliced
returns-clause-spliced c = λ form cs new i j. encode-splice form cs new i j
