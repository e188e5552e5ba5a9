use Rattle.std.proofs.Common.{◌≡◌, ◌<◌, ◌≤◌, ◌-◌, [], length, map, take}
use Rattle.wide_conversions.specs.Utf8Items.{IsLossyPrefix}
use Rattle.wide_conversions.proofs.from_utf8_lossy.from_utf8_lossy_prefix.Given as goal

abbrev pub invariant-items : goal.invariant-items
invariant-items g l = record {
  within : l.read ≤ length l.text;
  valid : l.valid ≤ l.read;
  begun : 0 < l.written → 0 < l.read;
  space : l.written ≤ length l.units;
  long : length l.units ≡ length l.initial.units;
  prefix : IsLossyPrefix g.C.Unit.form l.policy l.text l.read l.fn.after_fault l.after_fault [] (map g.C.Unit.number (take l.written l.units));
}

abbrev pub decreases-items : goal.decreases-items
decreases-items g l = length l.text - l.read
