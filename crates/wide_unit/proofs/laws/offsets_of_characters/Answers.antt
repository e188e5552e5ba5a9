use Rattle.std.proofs.Common.{subst, sym}
use Rattle.wide_forms.specs.Offsets.{IsOffsetOf}
use Rattle.wide_forms.specs.Laws.Offsets.{IsOffsetOf-prefix, offset-IsOffsetOf, IsOffsetOf-boundary}
use Rattle.wide_unit.proofs.laws.offsets_of_characters.Goals as goal

pub returns-clause-lengths : goal.returns-clause-lengths
returns-clause-lengths c = λ form us index offset well. (offset-IsOffsetOf form us well index offset, λ e. subst (λ n. IsOffsetOf form us index n) (sym e) (IsOffsetOf-prefix form us well index))

pub returns-clause-boundaries : goal.returns-clause-boundaries
returns-clause-boundaries c = λ form us offset well at. IsOffsetOf-boundary form us well offset at
