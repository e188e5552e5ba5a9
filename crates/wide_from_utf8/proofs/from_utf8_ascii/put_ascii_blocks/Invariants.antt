use Rattle.std.proofs.Common.{◌≤◌, ◌+◌, ◌-◌, length, map, take}
use Rattle.wide_from_utf8.specs.Decoded.{IsDecoded}
use Rattle.wide_from_utf8.proofs.from_utf8_ascii.put_ascii_blocks.Given as goal

abbrev pub invariant-sixteens : goal.invariant-sixteens
invariant-sixteens g l = record {
  within : l.count ≤ length l.text;
  space : l.at + l.count ≤ length l.units;
  prefix : IsDecoded g.C.Unit.form l.text l.count (map g.C.Unit.number (take l.at l.fn.units)) (map g.C.Unit.number (take (l.at + l.count) l.units));
}

abbrev pub decreases-sixteens : goal.decreases-sixteens
decreases-sixteens g l = length l.text - l.count
