use Rattle.std.proofs.Common.{◌≡◌, ℕ, ◌-◌, ◌≤◌, List, length}
use Rattle.wide_wtf8.specs.Parts.{IsPart}
use Rattle.wide_wtf8.proofs.decoding.units_len_after.Given as goal

-- What was read is a part, whose units were counted.
abbrev pub invariant-parts : goal.invariant-parts
invariant-parts l = record {
  within : l.read ≤ length l.bytes;
  space : length l.units ≡ 514;
  counted : (us : List ℕ) × IsPart l.fn.after_high l.bytes l.read us l.after_high × (l.len ≡ length us);
  few : l.len ≤ l.read;
}

abbrev pub decreases-parts : goal.decreases-parts
decreases-parts l = length l.bytes - l.read
