use Rattle.wide_forms.specs.Laws.Offsets.{IsWellFormed-take, IsWellFormed-drop}
use Rattle.wide_forms.specs.Laws.Splices.{IsWellFormed-part, chars-part, IsWellFormed-splice, chars-splice}
use Rattle.wide_unit.proofs.laws.spliced_text.Goals as goal

pub returns-clause-cuts : goal.returns-clause-cuts
returns-clause-cuts c = λ form us offset well at. (IsWellFormed-take form us well offset at, IsWellFormed-drop form us well offset at)

pub returns-clause-parts : goal.returns-clause-parts
returns-clause-parts c =
    λ form us from to well at_from at_to forward. (IsWellFormed-part form us from to well at_from at_to forward, chars-part form us from to well at_from at_to forward)

pub returns-clause-splices : goal.returns-clause-splices
returns-clause-splices c =
    λ form us new from to well inserted at_from at_to. (IsWellFormed-splice form us from to well at_from at_to new inserted, chars-splice form us from to well at_from at_to new inserted)
