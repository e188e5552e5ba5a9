use Rattle.std.proofs.Common.{◌≡◌, ◌≤◌, ◌*◌, ◌-◌, length, take}
use Rattle.wide_forms.specs.Utf8.{utf8}
use Rattle.wide_from_units.proofs.to_utf8.utf32_to_utf8_prefix.Given as goal

abbrev pub invariant-sixteens : goal.invariant-sixteens
invariant-sixteens l = record {
  within : l.read ≤ length l.units;
  few : l.written ≤ 4 * l.read;
  space : l.written ≤ length l.text;
  text : take l.written l.text ≡ utf8 (take l.read l.units);
}

abbrev pub decreases-sixteens : goal.decreases-sixteens
decreases-sixteens l = length l.units - l.read

abbrev pub invariant-ones : goal.invariant-ones
invariant-ones l = record {
  within : l.read ≤ length l.units;
  few : l.written ≤ 4 * l.read;
  space : l.written ≤ length l.text;
  text : take l.written l.text ≡ utf8 (take l.read l.units);
}

abbrev pub decreases-ones : goal.decreases-ones
decreases-ones l = length l.units - l.read
