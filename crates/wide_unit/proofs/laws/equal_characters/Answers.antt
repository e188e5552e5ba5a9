use Rattle.std.proofs.Common.{ap}
use Rattle.wide_forms.specs.Items.{chars}
use Rattle.wide_forms.specs.Laws.Items.{chars-of_well_formed, same_units}
use Rattle.wide_unit.proofs.laws.equal_characters.Goals as goal

pub returns : goal.returns
returns c = λ form us vs a b. (λ e. ap (λ xs. chars form xs) e, same_units form us vs (chars form us) (chars form vs) (chars-of_well_formed form us a) (chars-of_well_formed form vs b))
