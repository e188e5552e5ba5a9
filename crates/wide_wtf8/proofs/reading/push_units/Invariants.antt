use Rattle.std.proofs.Common.{◌≡◌, ℕ, ◌-◌, ◌≤◌, ◌++◌, List, false, length}
use Rattle.wide_schemes.specs.Wtf8.{IsWtf8}
use Rattle.wide_wtf8.specs.Parts.{IsPart}
use Rattle.wide_wtf8.proofs.reading.push_units.Given as goal

-- What was read is a part, whose units were appended.
abbrev pub invariant-parts : goal.invariant-parts
invariant-parts g l = record {
  valid : IsWtf8 l.bytes;
  within : l.read ≤ length l.bytes;
  space : length l.chunk ≡ 514;
  so_far : (us : List ℕ) × IsPart false l.bytes l.read us l.after_high × (l.units.items ≡ l.fn.units.items ++ us);
}

abbrev pub decreases-parts : goal.decreases-parts
decreases-parts g l = length l.bytes - l.read
