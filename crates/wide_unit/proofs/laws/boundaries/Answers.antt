use Rattle.wide_unit.proofs.CharBoundaries.{IsBoundary-of_char, IsCharBoundary-of}
use Rattle.wide_unit.proofs.laws.boundaries.Goals as goal

pub returns : goal.returns
returns c = λ form us offset well. (λ at. IsCharBoundary-of form us offset well at, λ here. IsBoundary-of_char form us offset here)
