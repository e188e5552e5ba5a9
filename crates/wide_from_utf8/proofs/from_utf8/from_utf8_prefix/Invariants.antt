use Rattle.std.proofs.Common.{◌≤◌, ◌*◌, ◌-◌, [], length, map, take}
use Rattle.wide_from_utf8.specs.Decoded.{IsDecoded}
use Rattle.wide_from_utf8.proofs.from_utf8.from_utf8_prefix.Given as goal

abbrev pub invariant-sixteens : goal.invariant-sixteens
invariant-sixteens g l = record {
  within : l.read ≤ length l.text;
  few : l.written ≤ 2 * l.read;
  space : l.written ≤ length l.units;
  prefix : IsDecoded g.C.Unit.form l.text l.read [] (map g.C.Unit.number (take l.written l.units));
}

abbrev pub decreases-sixteens : goal.decreases-sixteens
decreases-sixteens g l = length l.text - l.read

abbrev pub invariant-ones : goal.invariant-ones
invariant-ones g l = record {
  within : l.read ≤ length l.text;
  few : l.written ≤ 2 * l.read;
  space : l.written ≤ length l.units;
  prefix : IsDecoded g.C.Unit.form l.text l.read [] (map g.C.Unit.number (take l.written l.units));
}

abbrev pub decreases-ones : goal.decreases-ones
decreases-ones g l = length l.text - l.read

abbrev pub invariant-eights : goal.invariant-eights
invariant-eights g l = record {
  within : l.read ≤ length l.text;
  few : l.written ≤ 2 * l.read;
  space : l.written ≤ length l.units;
  prefix : IsDecoded g.C.Unit.form l.text l.read [] (map g.C.Unit.number (take l.written l.units));
}

abbrev pub decreases-eights : goal.decreases-eights
decreases-eights g l = length l.text - l.read
