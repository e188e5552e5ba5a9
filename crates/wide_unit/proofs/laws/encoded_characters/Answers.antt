use Rattle.wide_forms.specs.EncodingForm.{encode}
use Rattle.wide_forms.specs.Laws.Items.{items-encode, IsWellFormed-of_chars}
use Rattle.wide_forms.specs.Laws.Offsets.{scalars-chars, encode-chars}
use Rattle.wide_unit.proofs.laws.encoded_characters.Goals as goal

pub returns-clause-well_formed : goal.returns-clause-well_formed
returns-clause-well_formed c = λ form cs scalars. IsWellFormed-of_chars form (encode form cs) cs (items-encode form cs scalars)

pub returns-clause-decodes : goal.returns-clause-decodes
returns-clause-decodes c = items-encode

pub returns-clause-encoded : goal.returns-clause-encoded
returns-clause-encoded c = λ form us well. (scalars-chars form us well, encode-chars form us well)
