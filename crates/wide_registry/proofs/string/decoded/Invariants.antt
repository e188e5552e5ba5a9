use Rattle.std.proofs.Common.{◌≡◌, ◌++◌, length}
use Rattle.wide_registry.specs.Escapes.{unescaped}
use Rattle.wide_registry.proofs.string.decoded.Given as goal

abbrev pub invariant-loop-rest : goal.invariant-loop-rest
invariant-loop-rest l = l.text.items ++ unescaped l.rest ≡ unescaped l.string

abbrev pub decreases-loop-rest : goal.decreases-loop-rest
decreases-loop-rest l = length l.rest
