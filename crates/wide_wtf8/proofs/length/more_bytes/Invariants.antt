use Rattle.std.proofs.Common.{◌≡◌, ◌*◌, ◌≤◌}
use Rattle.wide_wtf8.specs.Lengths.{more_of_first}
use Rattle.wide_wtf8.proofs.length.more_bytes.Given as goal

abbrev pub invariant-loop-k : goal.invariant-loop-k
invariant-loop-k l = (l.more ≡ more_of_first l.k l.units) × (l.more ≤ 2 * l.k)
