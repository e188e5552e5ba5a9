use Rattle.std.proofs.Common.{◌<◌, ℕ, get_or}
use Rattle.wide_from_units.specs.Scalars.{IsScalarWord}
use Rattle.wide_from_units.proofs.to_utf8.words_of.Given as goal

abbrev pub invariant-loop-k : goal.invariant-loop-k
invariant-loop-k l = (j : ℕ) → j < l.k → IsScalarWord (get_or l.block j 0) (get_or l.words j 0)
