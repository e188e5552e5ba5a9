use Rattle.wide_forms.specs.Laws.Offsets.{IsWellFormed-encode, chars-encode}
use Rattle.wide_forms.specs.Laws.Texts.{scalars-picked}
use Rattle.wide_unit.proofs.laws.filtered_text.Goals as goal

pub returns : goal.returns
returns c = λ form us picked well within.
    let scalars = scalars-picked form us picked well within in
    (IsWellFormed-encode form picked scalars, chars-encode form picked scalars)
