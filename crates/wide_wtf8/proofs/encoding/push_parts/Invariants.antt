use Rattle.std.proofs.Common.{◌≡◌, ◌++◌, ◌≤◌, length}
use Rattle.wide_schemes.specs.Wtf8.{wtf8}
use Rattle.wide_wtf8.proofs.encoding.push_parts.Given as goal

-- The bytes appended so far are followed by those of the units that are left.
abbrev pub invariant-parts : goal.invariant-parts
invariant-parts g l = record {
  space : 10 ≤ length l.part;
  within : length l.rest ≤ length l.units;
  so_far : l.text.items ++ wtf8 l.rest ≡ l.fn.text.items ++ wtf8 l.units;
}

abbrev pub decreases-parts : goal.decreases-parts
decreases-parts g l = length l.rest
